-- The hand-worked table holds: antt computes both sides of each entry.
-- Assumes nothing.
use mathlib.Core.Path.{refl}
use Rattle.algebra.specs.Symbols.{same, power, sum}
use Rattle.algebra.specs.Weights.{weight, x_power, y_power, gap, nongap}
use Rattle.algebra.specs.Functions.{shift, times_x, times_y, times_ys, times_monomial, monomial_at}
use Rattle.algebra.specs.Interpolation.{unit, x_part, y_part}
use Rattle.lists.specs.Tables.{from, tab, keep}
use Rattle.symbols.specs.Rule.{size, reduced_by, sum_of, difference_of, twice, chosen, product, power_of, inverse_of, Below, into, symbols}
use Rattle.curve.specs.Points.{on_curve, pair, points, point_at}
use Rattle.curve.specs.Codes.{point_count, is_code, nongaps, dimension, distance, reach}
use Rattle.curve.specs.Rows.{message_at, row_of}
use Rattle.encoder.specs.Encoding.{row_numbers}
use Rattle.published.specs.Start.{width, start_weight, step_count, coefficient, polynomial, polynomials, term, h, table, of_table, vanishing, one, nothing, negated, start_part, start}
use Rattle.published.specs.Picture.{area_size}
use Rattle.published.specs.Pairing.{degree, is_negative, positive_part, negative_part, is_voted, partner_of, k_of, best, degree_of, degree_f, degree_g, lead_f, lead_g, looked, in_voted_step, in_unvoted_step, pairing, score, vote}
use Rattle.published.specs.Steps.{substituted_part, substituted, raised_part, reduced_part, replaced, exchanged, ratio, changed, no_pair, updated, pairings, step, after, message_of}
use Rattle.steps.specs.Stop.{state_after, votes_after}
use Rattle.judging.specs.Judging.{differing, count_of}
use Rattle.decoder.specs.Decoding.{judgement, decoded}
use Rattle.voting.specs.Voting.{voted}
use Rattle.worked.specs.Table.{Table, is, has, terms, point_numbers, powers, polynomial_after, pair_one}
use Rattle.worked.specs.Reaches.{Reaches, reaches_from, further}
use Rattle.worked.specs.Stated.{Stated, product2, power_of2, gaps, ordinates}

-- opens all that the table computes with
unfoldable computing : Unit {0}
unfolding same power sum weight x_power y_power gap nongap shift times_x times_y times_ys times_monomial monomial_at unit x_part y_part from tab keep size reduced_by sum_of difference_of twice chosen product power_of inverse_of Below into symbols on_curve pair points point_at point_count nongaps dimension distance reach message_at row_of row_numbers width start_weight step_count coefficient polynomial polynomials term h table of_table vanishing one nothing negated start_part start degree is_negative positive_part negative_part is_voted partner_of k_of best degree_of degree_f degree_g lead_f lead_g looked in_voted_step in_unvoted_step pairing score vote substituted_part substituted raised_part reduced_part replaced exchanged ratio changed no_pair updated pairings step after message_of state_after votes_after differing count_of judgement voted decoded is has terms point_numbers powers polynomial_after pair_one area_size product2 power_of2 gaps ordinates
computing = tt

pub worked : Table
unfolding computing
worked =
    record {
      product-2-9 = refl;
      product-8-8 = refl;
      points-2 = refl;
      gap-11 = refl;
      no-gap-12 = refl;
      monomial-12 = refl;
      no-gap-15 = refl;
      monomial-15 = refl;
      no-gap-45 = refl;
      monomial-45 = refl;
      row-of-y = refl;
      row-of-1203 = refl;
      h-is = refl;
      g0-after-9 = refl;
      g1-after-9 = refl;
      f0-after-9 = refl;
      f1-after-9 = refl;
      partner-at-9 = refl;
      k-at-9 = refl;
      c-at-9 = refl;
      f0-after-6 = refl;
      f1-after-6 = refl;
      partner-of-weight-1 = refl;
      k-of-weight-1 = refl;
      accepted-with = refl;
      accepted-as = refl;
      refused = refl;
    }

pub stated : Stated
unfolding computing
stated =
    record {
      two-two = refl;
      two-three = refl;
      three-three = refl;
      powers-of-a = refl;
      gaps-2 = refl;
      gaps-4 = refl;
      above-0 = refl;
      above-1 = refl;
      above-2 = refl;
      above-4 = refl;
      tape-n = refl;
      tape-k = refl;
      tape-reach = refl;
      start-2 = refl;
      start-4 = refl;
      steps-2 = refl;
      steps-4 = refl;
      area-2 = refl;
      area-4 = refl;
    }

pub reached : Reaches
unfolding computing is_code reaches_from further
reached = record { two = refl; four-0 = refl; four-16 = refl; four-32 = refl; four-48 = refl; further-2 = refl; further-4 = refl }
