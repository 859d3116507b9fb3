-- All steps on a row that differs from a message's row in few places: each vote is the message's symbol for its weight.
-- Assumes nothing.
use mathlib.Core.Path.{◌≡◌, sym, ap, ◌∙◌}
use mathlib.Core.Bool.{Bool, true}
use mathlib.Core.List.{List, map}
use Prim.Native.Nat.{ℕ, zero, suc, ◌+◌, ◌*◌, ◌-◌, ◌≤◌, ◌<◌}
use native.Mathlib.Nat as Nat
use native.Mathlib.Omega.{arith}
use native.Mathlib.Decide.{ℕ_discrete}
use lib.ListN.{length, get_or, set}
use lib.Seq.{get_or-set_same, get_or-set_other}
use Rattle.algebra.specs.Symbols.{Symbols, Laws, same}
use Rattle.algebra.specs.Weights.{nongap}
use Rattle.algebra.specs.Functions.{Fn}
use Rattle.algebra.proofs.Ring.{ring, linear, same_true}
use Rattle.algebra.proofs.Powers.{two-le-q}
use Rattle.algebra.proofs.OnCurve.{value_at-cong}
use Rattle.lists.specs.Tables.{tab}
use Rattle.lists.proofs.Tables.{tab-of, map-tab, tab-same}
use Rattle.curve.specs.Codes.{point_count, nongaps, dimension}
use Rattle.curve.specs.Rows.{row_of}
use Rattle.curve.proofs.Arranged.{Arranged}
use Rattle.curve.proofs.Ranks.{nongaps-small, nongaps-pass, nongaps-rank}
use Rattle.curve.proofs.RowLaws.{count-is, row-value}
use Rattle.published.specs.Start.{Polynomials, start_weight, step_count}
use Rattle.published.specs.Pairing.{is_voted}
use Rattle.published.specs.Steps.{after, pairings, message_of}
use Rattle.published.specs.Meaning.{vote_on}
use Rattle.published.proofs.Tests.{decided}
use Rattle.published.proofs.Widths.{weight-before}
use Rattle.published.proofs.VotedWeights.{is-voted, voted-below, voted-nongap}
use Rattle.published.proofs.PairSymbols.{unvoted}
use Rattle.published.proofs.InPlace.{InPlace}
use Rattle.published.proofs.After.{polys_after, votes_after, left_after, Reached, reached, polys-suc, votes-suc, left-none, left-suc}
use Rattle.withinreach.specs.Margin.{start_gains}
use Rattle.withinreach.proofs.Members.{member-same, lessened}
use Rattle.withinreach.proofs.LeastStep.{Members, LeastOf, least_step}
use Rattle.withinreach.proofs.StartLeast.{start-least}
use Rattle.withinreach.proofs.Locators.{locators, count}
use Rattle.withinreach.proofs.Images.{xs, ys, Left}
use Rattle.withinreach.proofs.Voting.{right-vote}
use Rattle.withinreach.proofs.Remaining.{remaining, remaining-cut, remaining-light, remaining-all, remaining-value}
use Rattle.withinreach.proofs.Remaining.{symbol_for, symbol-none, symbol-some}

-- there is a step for every weight of a code
steps-reach : (q u : ℕ) → 0 < q → u < q * (q * q) → u < step_count q
unfolding step_count start_weight
steps-reach q u positive l = omega (arith, Nat.mul-le-mul_left q positive)

module _ (𝓢 : Symbols) (q : ℕ) where
  open 𝓢 use {K}

  -- the least degrees depend on the symbols at the points alone
  least_of-same : {r r' : ℕ → K} {s : ℕ} {S : Polynomials 𝓢 q} → ((m : ℕ) → m < point_count q → r m ≡ r' m)
      → LeastOf 𝓢 q r s S → LeastOf 𝓢 q r' s S
  least_of-same e least = record {
    pair = λ i j hi hj. record {
      up = λ d v f. (least.pair i j hi hj).up d (member-same 𝓢 q (λ m hm. sym (e m hm)) v) f;
      low = λ d v g. (least.pair i j hi hj).low d (member-same 𝓢 q (λ m hm. sym (e m hm)) v) g;
    };
  }

module _ {𝓢 : Symbols} {q : ℕ} (𝓛 : Laws 𝓢 q) (𝓐 : Arranged 𝓢 q) (u : ℕ) (u-below : u < point_count q)
    (message row : List 𝓢.K) where
  infixl 65 ◌⊕◌ ◌⊖◌
  infixl 70 ◌⊗◌
  open 𝓢 use {K, 𝟘, ◌⊕◌, ◌⊖◌, ◌⊗◌}

  -- where the row agrees with the message's
  abbrev pub agrees : ℕ → Bool
  agrees m = same 𝓢 (get_or row m 𝟘) (get_or (row_of 𝓢 q u message) m 𝟘)

  -- in how many places it does not
  abbrev pub wrong_places : ℕ
  wrong_places = count 𝓛 (xs 𝓢 q) (ys 𝓢 q) agrees (point_count q)

  -- the message's symbols by weight, and what is left of its function
  abbrev ω : ℕ → K
  ω = symbol_for 𝓢 q u message

  abbrev rest : ℕ → Fn 𝓢 q
  rest = remaining 𝓢 q u message

  -- u is below q³
  small : u < q * (q * q)
  small = rw (count-is q) at u-below

  -- so there is a step for each of its weights
  reaches : u < step_count q
  reaches = steps-reach q u (omega (arith, two-le-q 𝓛)) small

  -- what holds after t steps
  record Ready (t : ℕ) : Type 0 where
    least : LeastOf 𝓢 q (left_after 𝓢 q u row t) (step_count q - t) (polys_after 𝓢 q u row t)
    left : Left 𝓢 q agrees (left_after 𝓢 q u row t) (step_count q - t) (rest (step_count q - t))
    votes : (s : ℕ) → s < step_count q → step_count q ≤ s + t → get_or (votes_after 𝓢 q u row t) s 𝟘 ≡ ω s

  -- before the first step
  ready-start : Ready 0
  unfolding after
  ready-start = let e : step_count q - 0 ≡ step_count q = omega arith in record {
    least = rw e (least_of-same 𝓢 q (λ m hm. sym (left-none 𝓛 𝓐 u row m)) (start-least 𝓛 𝓐 row));
    left = rw e (record {
      light = remaining-light 𝓢 q u message (q * (q * q)) (step_count q) small;
      cut = remaining-cut 𝓢 q u message (step_count q);
      takes = λ m hm t.
          left-none 𝓛 𝓐 u row m ∙ same_true 𝓛 (get_or row m 𝟘) (get_or (row_of 𝓢 q u message) m 𝟘) t ∙ row-value 𝓐 𝓛 u message u-below m hm
          ∙ value_at-cong 𝓢 q (q * q) (xs 𝓢 q m) (ys 𝓢 q m)
          (λ j i hj hi. sym (remaining-all 𝓢 q u message (step_count q) j i reaches));
    });
    votes = λ s hs l. absurd (omega arith);
  }

  -- twice the errors are below the sum of the start's q² - k at every voted weight
  module _ (few : (s : ℕ) → s ≤ u → nongap q s ≡ true → 2 * wrong_places < start_gains q s) where
    module _ (t : ℕ) (h : t < step_count q) (ready : Ready t) where
      -- the weight of the step, the polynomials and the symbols before it
      abbrev s : ℕ
      s = start_weight q - t

      abbrev S : Polynomials 𝓢 q
      S = polys_after 𝓢 q u row t

      abbrev r : ℕ → K
      r = left_after 𝓢 q u row t

      -- what is known of them
      before : Reached 𝓢 q u row t
      before = reached 𝓛 𝓐 u row t (omega arith)

      -- their leads stand in their places
      led : InPlace 𝓢 q (suc s) S
      led = rw (weight-before q t h) at before.led

      -- they are members
      members : Members 𝓢 q r S
      members = record { of = λ p hp. record { zero-at = λ m hm. before.zeros m p hm hp } }

      -- with the least degrees
      least-now : LeastOf 𝓢 q r (suc s) S
      least-now = rw (weight-before q t h) at ready.least

      -- and what is left of the message has the symbols that are left where the rows agree
      left-now : Left 𝓢 q agrees r (suc s) (rest (suc s))
      left-now = rw (weight-before q t h) at ready.left

      -- what is left if the message's symbol is taken away
      left-next : Left 𝓢 q agrees (lessened 𝓢 q s (ω s) r) s (rest s)
      unfolding lessened
      left-next = record {
        light = remaining-light 𝓢 q u message (q * (q * q)) s small;
        cut = remaining-cut 𝓢 q u message s;
        takes = λ m hm t.
            linear 𝓛 (left-now.takes m hm t ∙ remaining-value 𝓛 u message s (xs 𝓢 q m) (ys 𝓢 q m) small) (simp (ring, 𝓛));
      }

      -- the vote is the message's symbol
      vote-is : vote_on 𝓢 q u s S ≡ ω s
      unfolding vote_on
      vote-is =
          decided (is_voted q u s)
          (λ v. right-vote 𝓛 𝓐 agrees (locators 𝓛 (xs 𝓢 q) (ys 𝓢 q) agrees (point_count q)) u s S led members least-now v (ω s)
          left-now left-next (few s (voted-below q u s v) (voted-nongap q u s v)))
          (λ v. unvoted 𝓢 q u s (pairings 𝓢 q u s S) v ∙ sym (symbol-none 𝓢 q u message s v))

      -- what is left after the step
      left_then : (m : ℕ) → m < point_count q → lessened 𝓢 q s (vote_on 𝓢 q u s S) r m ≡ left_after 𝓢 q u row (suc t) m
      unfolding lessened
      left_then m hm = left-suc 𝓛 𝓐 u row t m h before

      -- the weight in force is one less
      lower-weight : step_count q - suc t ≡ s
      lower-weight = omega (arith, weight-before q t h)

      -- one step more
      ready-next : Ready (suc t)
      ready-next = record {
        least = rw (polys-suc 𝓢 q u row t, lower-weight)
            (least_of-same 𝓢 q left_then (least_step 𝓛 𝓐 u s S led members least-now));
        left = rw lower-weight (record {
          light = left-next.light;
          cut = left-next.cut;
          takes = λ m hm v. sym (left_then m hm) ∙ ap (λ w. lessened 𝓢 q s w r m) vote-is ∙ left-next.takes m hm v;
        });
        votes = λ n hn l. rw (votes-suc 𝓢 q u row t) (vote-at n hn l);
      }
        where
          vote-at : (n : ℕ) → n < step_count q → step_count q ≤ n + suc t
              → get_or (set (votes_after 𝓢 q u row t) s (vote_on 𝓢 q u s S)) n 𝟘 ≡ ω n
          vote-at n hn l = elim (ℕ_discrete n s) [
            | yes e ↦
                let within : s < length (votes_after 𝓢 q u row t) = omega (arith, before.long, weight-before q t h) in
                rw e (get_or-set_same (votes_after 𝓢 q u row t) s (vote_on 𝓢 q u s S) 𝟘 within ∙ vote-is)
            | no ne ↦
                get_or-set_other (votes_after 𝓢 q u row t) s n (vote_on 𝓢 q u s S) 𝟘 ne
                ∙ ready.votes n hn (omega (arith, weight-before q t h))
          ]

    -- after any number of steps
    ready-after : (t : ℕ) → t ≤ step_count q → Ready t
    ready-after zero h = ready-start
    ready-after (suc t) h = ready-next t h (ready-after t (omega arith))

    -- the votes after all steps are the message
    pub votes-read : length message ≡ dimension q u → message_of 𝓢 q u (after 𝓢 q u row (step_count q)).votes ≡ message
    unfolding message_of dimension
    votes-read whole =
        ap (map voted) (tab-of 0 (nongaps q u)) ∙ map-tab voted (dimension q u) (λ m. get_or (nongaps q u) m 0)
        ∙ tab-same (dimension q u) (λ m. voted (get_or (nongaps q u) m 0)) (λ m. get_or message m 𝟘) right
        ∙ sym (tab-of 𝟘 message ∙ ap (λ n. tab n (λ m. get_or message m 𝟘)) whole)
      where
        voted : ℕ → K
        voted s = get_or (after 𝓢 q u row (step_count q)).votes s 𝟘

        right : (m : ℕ) → m < dimension q u → voted (get_or (nongaps q u) m 0) ≡ get_or message m 𝟘
        right m hm =
            let s = get_or (nongaps q u) m 0 in
            let low = nongaps-small q u m hm in
            (ready-after (step_count q) (omega arith)).votes s (omega (arith, reaches)) (omega arith)
            ∙ symbol-some 𝓢 q u message s (is-voted q u s low (nongaps-pass q u m hm))
            ∙ ap (λ n. get_or message n 𝟘) (nongaps-rank q u m hm)
