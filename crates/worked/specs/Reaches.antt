-- The reach of every code, and which codes reach further than by n - u. Wish 2's figures are among them.
-- Assumes nothing.
use Rattle.std.specs.Prelude.{◌≡◌, List, [], ◌∷◌, map, ℕ, ◌+◌, ◌-◌, ◌/◌, ltb}
use Rattle.lists.specs.Tables.{tab, keep}
use Rattle.curve.specs.Codes.{point_count, is_code, reach}

-- each code u with its reach, for the sixteen u from a number on
unfoldable pub reaches_from : ℕ → ℕ → List (ℕ × ℕ)
reaches_from q low = map (λ u. (u, reach q u)) (keep (is_code q) (tab 16 (λ i. low + i)))

-- the codes that reach further than document 01's floor((n - u - 1)/2)
unfoldable pub further : ℕ → List ℕ
further q = keep (λ u. ltb ((point_count q - u - 1) / 2) (reach q u)) (keep (is_code q) (tab (point_count q) (λ u. u)))

pub record Reaches : Type 0 where
  -- all codes of q = 2
  pub two : reaches_from 2 0 ≡ (2, 2) ∷ (3, 2) ∷ (4, 1) ∷ (5, 1) ∷ (6, 0) ∷ (7, 0) ∷ []
  -- all codes of q = 4
  pub four-0 : reaches_from 4 0 ≡ (4, 29) ∷ (5, 29) ∷ (8, 27) ∷ (9, 27) ∷ (10, 26) ∷ (12, 25) ∷ (13, 25) ∷ (14, 24) ∷ (15, 24) ∷ []
  pub four-16 : reaches_from 4 16 ≡ (16, 23) ∷ (17, 23) ∷ (18, 22) ∷ (19, 22) ∷ (20, 21) ∷ (21, 21) ∷ (22, 20) ∷ (23, 20) ∷ (24, 19) ∷ (25, 19) ∷ (26, 18) ∷ (27, 18) ∷ (28, 17) ∷ (29, 17) ∷ (30, 16) ∷ (31, 16) ∷ []
  pub four-32 : reaches_from 4 32 ≡ (32, 15) ∷ (33, 15) ∷ (34, 14) ∷ (35, 14) ∷ (36, 13) ∷ (37, 13) ∷ (38, 12) ∷ (39, 12) ∷ (40, 11) ∷ (41, 11) ∷ (42, 10) ∷ (43, 10) ∷ (44, 9) ∷ (45, 9) ∷ (46, 8) ∷ (47, 8) ∷ []
  pub four-48 : reaches_from 4 48 ≡ (48, 7) ∷ (49, 7) ∷ (50, 6) ∷ (51, 6) ∷ (52, 5) ∷ (53, 5) ∷ (54, 4) ∷ (55, 4) ∷ (56, 3) ∷ (57, 3) ∷ (58, 3) ∷ (59, 2) ∷ (60, 1) ∷ (61, 1) ∷ (62, 1) ∷ (63, 1) ∷ []
  -- three codes reach further
  pub further-2 : further 2 ≡ []
  pub further-4 : further 4 ≡ 58 ∷ 62 ∷ 63 ∷ []
