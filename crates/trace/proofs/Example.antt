-- The definitions print document 01's example: antt computes both sides.
-- Assumes nothing.
use mathlib.Core.Path.{◌≡◌, refl}
use Rattle.algebra.specs.Symbols.{same, power, sum}
use Rattle.algebra.specs.Weights.{weight, x_power, y_power, gap, nongap}
use Rattle.algebra.specs.Functions.{shift, times_x, times_y, times_ys, times_monomial, monomial_at}
use Rattle.algebra.specs.Interpolation.{unit, x_part, y_part}
use Rattle.lists.specs.Tables.{from, tab, keep}
use Rattle.symbols.specs.Rule.{size, reduced_by, sum_of, difference_of, twice, chosen, product, power_of, inverse_of, Below, into, symbols, is_known, any_beyond}
use Rattle.curve.specs.Points.{on_curve, pair, points, point_at}
use Rattle.curve.specs.Codes.{point_count, nongaps, dimension, distance, reach, is_code}
use Rattle.curve.specs.Rows.{message_at, row_of}
use Rattle.encoder.specs.Encoding.{row_numbers}
use Rattle.published.specs.Start.{width, start_weight, step_count, coefficient, polynomial, polynomials, term, h, table, of_table, vanishing, one, nothing, negated, start_part, start}
use Rattle.published.specs.Picture.{area_size}
use Rattle.published.specs.Pairing.{degree, is_negative, positive_part, negative_part, is_voted, partner_of, k_of, best, degree_of, degree_f, degree_g, lead_f, lead_g, looked, in_voted_step, in_unvoted_step, pairing, score, vote}
use Rattle.published.specs.Steps.{substituted_part, substituted, raised_part, reduced_part, replaced, exchanged, ratio, changed, no_pair, updated, pairings, step, after, message_of}
use Rattle.steps.specs.Stop.{state_after, votes_after}
use Rattle.judging.specs.Judging.{differing, count_of}
use Rattle.decoder.specs.Decoding.{judgement, decoded}
use Rattle.curve.specs.Answers.{code_checks, symbol_checks}
use Rattle.voting.specs.Voting.{voted}
use Rattle.refusals.specs.Numbers.{first_of}
use Rattle.lines.specs.Text.{ascii, last_digits, digits, spaced}
use Rattle.request.specs.Request.{line, request, ends_number, grown, numbers_from, as_byte, is_taken, said_by, reading}
use Rattle.lists.specs.Same.{same_list}
use Rattle.report.specs.Report.{accept_line, vote_text, step_text}
use Rattle.steplines.specs.StepLines.{step_lines}
use Rattle.stepline.specs.StepLine.{step_line}
use Rattle.stepline.specs.StepLine.{degrees}
use Rattle.stepline.specs.StepLine.{vote_at}
use Rattle.trace.specs.Trace.{last_line, row_lines, trace_checks, answer, answer_to, trace_text}
use Rattle.trace.specs.Example.{example_text, example_printed}

pub example : trace_text example_text ≡ example_printed
unfolding example_text example_printed same power sum weight x_power y_power gap nongap shift times_x times_y times_ys times_monomial monomial_at unit x_part y_part from tab keep size reduced_by sum_of difference_of twice chosen product power_of inverse_of Below into symbols is_known any_beyond on_curve pair points point_at point_count nongaps dimension distance reach is_code message_at row_of row_numbers width start_weight step_count coefficient polynomial polynomials term h table of_table vanishing one nothing negated start_part start area_size degree is_negative positive_part negative_part is_voted partner_of k_of best degree_of degree_f degree_g lead_f lead_g looked in_voted_step in_unvoted_step pairing score vote substituted_part substituted raised_part reduced_part replaced exchanged ratio changed no_pair updated pairings step after message_of state_after votes_after differing count_of judgement voted decoded first_of ascii last_digits digits spaced line request ends_number grown numbers_from as_byte same_list is_taken said_by reading accept_line vote_text step_text vote_at degrees step_line step_lines last_line row_lines code_checks symbol_checks trace_checks answer answer_to trace_text
example = refl
