-- Which table and which record a fault names: by its number, and none where there is no fault.
-- Assumes nothing.
use Prim.Native.Nat.{ℕ, zero, suc, ◌+◌, ◌<◌, ◌≤◌}
use mathlib.Core.Path.{◌≡◌, refl}
use mathlib.Core.Bool.{Bool, true, false, ◌||◌, true≢false}
use mathlib.Core.Logic.{◌≢◌, ◌⊎◌, inl, inr}
use mathlib.Core.List.{List}
use native.Mathlib.Omega.{arith}
use native.Mathlib.Nat.{eq-or-lt_of_le}
use lib.Dec.{leb, ltb, eqb}
use lib.ListN.{length}
use borrow.Author.Tests.{eqb-false}
use Rattle.paper.specs.Tests.{first_from, first_bad}
use Rattle.paper.specs.Trailer.{limit, longest, mark_ok, total_ok, count_ok, lengths_ok, offsets_ok, rules_ok, rules_of, count_of, record_at}
use Rattle.paper.specs.Sheet.{grammar_of}
use Rattle.paper.specs.Records.{record_ok, table_ok, bad_table, assert_fits, bad_term}
use Rattle.paper.specs.Refusals.{Fault, plain, no_fault, unless, or_else, count_fault, rule_fault, record_fault, term_fault, content_refusal, table_refusal, Takes, refusal, latest}
use Rattle.paper.specs.Names.{FirstFails, NewByte, FirstRecord, Names}
use Rattle.paper.specs.Cuts.{cut_list}
use Rattle.paper.specs.Rules.{no_rule}
use Rattle.paper.specs.Editions.{Move, from, to, in_edition, only, move_refusal}
use Rattle.paper.specs.Answers.{words, solver_refusal, maker_refusal}
use Rattle.paper.proofs.Tests.{true_or_false}

-- ---- the first that fails a test

first_before_from : (ok : ℕ → Bool) (k left i : ℕ) → k ≤ i → i < first_from ok k left → ok i ≡ true
unfolding first_from
first_before_from ok k zero i l h = absurd (omega arith)
first_before_from ok k (suc left) i l h = go (λ q z. first_before_from ok (suc k) left i q z) (true_or_false (ok k)) (eq-or-lt_of_le l)
  where
    go : (k < i → i < first_from ok (suc k) left → ok i ≡ true) → (ok k ≡ true) ⊎ (ok k ≡ false) → (k ≡ i) ⊎ (k < i) → ok i ≡ true
    go ih (inl p) (inl q) = rw q at p
    go ih (inl p) (inr q) = ih q (rw p at h)
    go ih (inr p) r = absurd (let z : i < k = rw p at h in omega arith)

first_fails_from : (ok : ℕ → Bool) (k left : ℕ) → first_from ok k left < k + left → ok (first_from ok k left) ≡ false
unfolding first_from
first_fails_from ok k zero h = absurd (omega arith)
first_fails_from ok k (suc left) h = go (λ z. first_fails_from ok (suc k) left z) (true_or_false (ok k))
  where
    go : (first_from ok (suc k) left < suc k + left → ok (first_from ok (suc k) left) ≡ false) → (ok k ≡ true) ⊎ (ok k ≡ false) → ok (first_from ok k (suc left)) ≡ false
    go ih (inl p) = let z : first_from ok (suc k) left < k + suc left = rw p at h in rw p (ih (omega arith))
    go ih (inr p) = rw (p, p)

first_most : (ok : ℕ → Bool) (k left : ℕ) → first_from ok k left ≤ k + left
unfolding first_from
first_most ok k zero = omega arith
first_most ok k (suc left) = go (first_most ok (suc k) left) (true_or_false (ok k))
  where
    go : first_from ok (suc k) left ≤ suc k + left → (ok k ≡ true) ⊎ (ok k ≡ false) → first_from ok k (suc left) ≤ k + suc left
    go ih (inl p) = rw p (omega arith)
    go ih (inr p) = rw p (omega arith)

-- where not each passes, it is the first that fails
first_fails : (ok : ℕ → Bool) (n : ℕ) → eqb (first_bad ok n) n ≡ false → FirstFails ok n (first_bad ok n)
first_fails ok n e =
    let l : first_bad ok n < n = omega (arith, first_most ok 0 n, eqb-false (first_bad ok n) n e) in
    record { below = l; fails = first_fails_from ok 0 n (omega arith); before = λ j h. first_before_from ok 0 n j (omega arith) h }

-- ---- what a fault names

module _ (s : List ℕ) where
  pub plain_names : (n : ℕ) → n ≢ 14 → n ≢ 16 → n ≢ 17 → Names s (plain n)
  plain_names n a b c = record {
    counts = λ e. absurd (a e);
    records = λ e. absurd (b e);
    terms = λ e. absurd (c e);
    others = λ x y z. (refl, refl);
  }

  -- a number that names nothing
  pub named_by : (n : ℕ) → (eqb n 14 || (eqb n 16 || eqb n 17)) ≡ false → Names s (plain n)
  named_by n e = plain_names n (λ z. true≢false (rw z at e)) (λ z. true≢false (rw z at e)) (λ z. true≢false (rw z at e))

  count_names : eqb (first_bad (count_ok s) 5) 5 ≡ false → Names s (count_fault s)
  count_names h = record {
    counts = λ e. (first_fails (count_ok s) 5 h, refl);
    records = λ e. absurd (omega arith);
    terms = λ e. absurd (omega arith);
    others = λ a b c. absurd (a refl);
  }

  -- a fault that 16 tells
  told_16 : (f : Fault) → f.number ≡ 16 → NewByte s f ⊎ FirstRecord s f → Names s f
  told_16 f e n = record {
    counts = λ z. absurd (omega arith);
    records = λ z. n;
    terms = λ z. absurd (omega arith);
    others = λ a b c. absurd (b e);
  }

  rule_names : rules_ok s ≡ false → Names s rule_fault
  rule_names h = told_16 rule_fault refl (inl (record { bad = h; table = refl; «record» = refl }))

  record_names : rules_ok s ≡ true → eqb (bad_table s) 5 ≡ false → Names s (record_fault s)
  unfolding table_ok
  record_names good h =
      let t = first_fails (table_ok s) 5 h in
      told_16 (record_fault s) refl
      (inr (record {
        good = good;
        table = t;
        «record» = first_fails (λ i. record_ok s (bad_table s) (record_at s (bad_table s) i)) (count_of s (bad_table s)) t.fails;
      }))

  term_names : eqb (bad_term s) (count_of s 4) ≡ false → Names s (term_fault s)
  term_names h = record {
    counts = λ e. absurd (omega arith);
    records = λ e. absurd (omega arith);
    terms = λ e. (refl, first_fails (λ i. assert_fits s (record_at s 4 i)) (count_of s 4) h);
    others = λ a b c. absurd (c refl);
  }

  -- where the test holds, what follows may count on it
  unless_then : (f : Fault) (test : Bool) (later : Fault) → (test ≡ false → Names s f) → (test ≡ true → Names s later) → Names s (unless f test later)
  unless_then f true later a b = b refl
  unless_then f false later a b = a refl

  pub unless_names : (f : Fault) (test : Bool) (later : Fault) → (test ≡ false → Names s f) → Names s later → Names s (unless f test later)
  unless_names f test later a b = unless_then f test later a (λ q. b)

  -- THE FAULT of a sheet names what its number says
  pub refusal_names : (takes : Takes) → Names s (refusal takes s)
  unfolding refusal table_refusal content_refusal
  refusal_names takes =
      unless_names (plain 10) (leb 32 (length s)) _ (λ q. named_by 10 refl)
      (unless_names (plain 11) (leb (length s) takes.bytes) _ (λ q. named_by 11 refl)
      (unless_names (plain 12) (mark_ok takes.first takes.last s) _ (λ q. named_by 12 refl)
      (unless_names (plain 13) (total_ok s) _ (λ q. named_by 13 refl)
      (unless_names (count_fault s) (eqb (first_bad (count_ok s) 5) 5) _ count_names
      (unless_names (plain 141) (lengths_ok s) _ (λ q. named_by 141 refl)
      (unless_names (plain 15) (offsets_ok s) _ (λ q. named_by 15 refl)
      (unless_then rule_fault (rules_ok s) _ rule_names (λ good.
      unless_names (record_fault s) (eqb (bad_table s) 5) _ (record_names good)
      (unless_names (term_fault s) (eqb (bad_term s) (count_of s 4)) no_fault term_names (named_by 0 refl))))))))))

  pub or_else_names : (f later : Fault) → Names s f → Names s later → Names s (or_else f later)
  or_else_names f later a b = unless_names f (eqb f.number 0) later (λ q. a) b

  pub solver_names : (work out : ℕ) → Names s (solver_refusal s work out)
  unfolding solver_refusal
  solver_names work out =
      or_else_names (refusal latest s) _ (refusal_names latest)
      (unless_names (plain 18) (leb words work) _ (λ q. named_by 18 refl)
      (unless_names (plain 19) (leb (longest s) out) no_fault (λ q. named_by 19 refl) (named_by 0 refl)))

  pub maker_names : (row n space : ℕ) → Names s (maker_refusal s row n space)
  unfolding maker_refusal
  maker_names row n space =
      or_else_names (refusal latest s) _ (refusal_names latest)
      (unless_names (plain 20) (ltb row (count_of s 2)) _ (λ q. named_by 20 refl)
      (unless_names (plain 21) (leb n limit) _ (λ q. named_by 21 refl)
      (unless_names (plain 22) (leb (length (cut_list (grammar_of s) row n)) space) no_fault (λ q. named_by 22 refl) (named_by 0 refl))))

  pub move_names : (m : Move) (space : ℕ) → Names s (move_refusal m s space)
  unfolding move_refusal
  move_names m space =
      or_else_names (refusal (only (from m)) s) _ (refusal_names (only (from m)))
      (unless_names (plain 40) (no_rule (rules_of s)) _ (λ q. named_by 40 refl)
      (unless_names (plain 41) (leb (length (in_edition (to m) s)) space) no_fault (λ q. named_by 41 refl) (named_by 0 refl)))

  -- where there is no fault, no table and no record is named
  pub none_names : (f : Fault) → Names s f → f.number ≡ 0 → f ≡ no_fault
  none_names f n e =
      let z = n.others (λ q. omega arith) (λ q. omega arith) (λ q. omega arith) in
      same f.number f.table f.«record» e z.0 z.1
    where
      same : (a b c : ℕ) → a ≡ 0 → b ≡ 0 → c ≡ 0 → record { number = a; table = b; «record» = c } ≡ no_fault
      same a b c p q r = rw (p, q, r)
