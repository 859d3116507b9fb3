-- `stepline::read_degrees` meets its contract: the goals that the check leaves open. Assumes nothing.
use mathlib.Core.Path.{◌≡◌, refl, ap, sym, ◌∙◌}
use Prim.Native.Nat.{ℕ, ◌*◌}
use native.Mathlib.Omega.{arith}
use lib.ListN.{length-set}
use Rattle.lists.specs.Tables.{put}
use Rattle.lists.proofs.Put.{put-none}
use Rattle.symbols.specs.Rule.{symbols, number}
use Rattle.published.specs.Start.{Polynomials, width}
use Rattle.published.specs.Pairing.{degree}
use Rattle.workarea.specs.Area.{Starts, cells_of}
use Rattle.stepline.proofs.LeadingRows.{row_degree, row_read, rows-read}
use Rattle.stepline.proofs.read_degrees.Goals as goal
use Rattle.stepline.proofs.read_degrees.Goals.{After-leading_of}

-- the degree that was read is the one of the row
row-degree : (c : After-leading_of)
    → let a = c.args in
    (S : Polynomials (symbols a.q) a.q) → Starts a.q a.work.now (cells_of a.q S) → c.leading_of.result.degree ≡ row_degree a.q S c.loop-r.r
unfolding row_degree
row-degree c S starts =
    let q = c.args.q in
    (c.leading_of.ensures.leading_of (cells_of q S) starts).degree-is
    ∙ ap (λ (p : ℕ). degree (λ i. number q (cells_of q S p c.loop-r.r i)) (width q)) c.leader.ensures.0

pub loop-r-init : goal.loop-r-init
loop-r-init c =
    let a = c.args in
    (omega arith, refl, refl, λ S starts. sym (put-none a.degrees.now 0 (row_degree a.q S)))

pub loop-r-preserved : goal.loop-r-preserved
loop-r-preserved c = (
  omega (arith, c.loop-r-test.true),
  refl,
  simp length-set c.loop-r.invariant.2,
  λ S starts. row_read c.args.q S c.args.degrees.now c.loop-r.degrees c.loop-r.r
      c.leading_of.result.degree (c.loop-r.invariant.3 S starts) (row-degree (goal.at.loop-r-preserved c).After-leading_of S starts),
)

pub returns : goal.returns
returns c =
    let q = c.args.q in
    let end : c.loop-r.r ≡ 2 * q = omega (arith, c.loop-r.invariant.0, c.loop-r-test.false) in
    λ S starts. rows-read q S c.args.degrees.now c.loop-r.degrees c.requires.q_in_bounds
    (c.loop-r.invariant.3 S starts ∙ ap (λ (k : ℕ). put c.args.degrees.now 0 k (row_degree q S)) end)
