use mathlib.Core.Path.{◌≡◌, sym, ◌∙◌, subst}
use Prim.Native.Nat.{ℕ, ◌≤◌, ◌<◌, ◌+◌, ◌-◌}
use native.Mathlib.Omega.{arith}
use Rattle.workspace.specs.Spans.{span_at}
use Rattle.workspace.proofs.Spans.{span_lt}
use Rattle.chart_cells.specs.Steps.{Adds, listed, parted}
use Rattle.chart_cells.proofs.Adding.{adds_none}
use Rattle.chart_cells.proofs.Splitting.{left_next, span_from, right_is, left_apart, parted_none, split_turn, no_pairs}
use Rattle.chart_cells.proofs.Grounding.{listed_count}
use Rattle.chart_cells.proofs.splits.Goals.{Start, then-g-eq0-via-then-g-eq0, then-g-eq0-via-else-g-eq0+then-m-lt2}
use Rattle.chart_cells.proofs.splits.Goals as goal

-- the right span's number
right : (sp i e : ℕ) → i ≤ sp → i < e → sp - i + e ≡ sp + (e - i)
right sp i e h l = omega arith

inside : (p : Start) → p.args.i ≤ p.args.sp
inside p = omega (arith, p.requires.1, span_from p.args.i p.args.m)

pub returns-then-g-eq0 : goal.returns-then-g-eq0
returns-then-g-eq0 c =
    let a = c.args in
    elim c.then-g-eq0.branch [
      | then-g-eq0-via-then-g-eq0 w ↦ no_pairs (listed a.g.now) a.i a.m a.sp a.work.now (listed_count a.g.now ∙ w.if-g-eq0.true) (a.m - 1)
      | then-g-eq0-via-else-g-eq0+then-m-lt2 w ↦
          let z : a.m - 1 ≡ 0 = omega arith in
          rw z (adds_none a.sp (parted (listed a.g.now) a.work.now a.i a.m 0) a.work.now (parted_none (listed a.g.now) a.i a.m a.work.now))
    ]

pub overflow_sub-base : goal.overflow_sub-base
overflow_sub-base c = inside (goal.at.overflow_sub-base c).Start

pub loop-e-init : goal.loop-e-init
loop-e-init c =
    let a = c.args in
    let z : a.i + 1 - a.i ≡ 1 = omega arith in
    (rw z c.span-left.ensures.0, rw z (adds_none a.sp (parted (listed a.g.now) a.work.now a.i a.m 0) a.work.now (parted_none (listed a.g.now) a.i a.m a.work.now)))

pub overflow_add-base : goal.overflow_add-base
overflow_add-base c = omega (arith, span_lt c.args.i c.args.m (omega arith))

pub split-requires : goal.split-requires
split-requires c =
    let i = c.args.i in
    let m = c.args.m in
    let l = c.loop-e in
    let k = l.e - i in
    let low : i < l.e = omega arith in
    let e : c.args.sp ≡ span_at i m = c.requires.1 in
    let r : c.args.sp - i + l.e ≡ c.args.sp + k = right c.args.sp i l.e (inside (goal.at.split-requires c).Start) low in (
      omega (arith, span_lt i k (omega arith)),
      omega (arith, right_is i m k (omega arith), span_lt (i + k) (m - k) (omega arith)),
      omega (arith, span_lt i m (omega arith)),
      (λ z. left_apart i m k (omega arith) (sym l.invariant.0 ∙ z ∙ e)),
      (λ z. omega arith),
    )

pub overflow_add-left-in-loop-e : goal.overflow_add-left-in-loop-e
overflow_add-left-in-loop-e c = omega (arith, span_lt c.args.i (c.loop-e.e - c.args.i) (omega arith))

pub loop-e-preserved : goal.loop-e-preserved
loop-e-preserved c =
    let a = c.args in
    let l = c.loop-e in
    let low : a.i < l.e = omega arith in (
      omega (arith, left_next a.i l.e (omega arith)),
      split_turn (listed a.g.now) a.i a.m a.sp l.left _ l.e a.work.now l.work _ c.requires.1 l.invariant.0 (right a.sp a.i l.e (inside (goal.at.loop-e-preserved c).Start) low) low (omega arith) l.invariant.1 c.split.ensures,
    )

pub returns : goal.returns
returns c =
    let a = c.args in
    let l = c.loop-e in
    subst (λ n. Adds a.sp (parted (listed a.g.now) a.work.now a.i a.m n) a.work.now l.work) (omega arith) l.invariant.1
