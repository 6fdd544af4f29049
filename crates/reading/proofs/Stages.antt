-- The table while it is filled, and at the end: its bits are the reading of the list.
-- Assumes nothing.
use Prim.Native.Nat.{ℕ, zero, suc, ◌+◌, ◌-◌, ◌≤◌, ◌<◌}
use mathlib.Core.Path.{◌≡◌, refl, sym, ap, ◌∙◌}
use mathlib.Core.Bool.{Bool, true, false, cond, ◌||◌}
use mathlib.Core.Logic.{⊎_elim}
use mathlib.Core.List.{List}
use native.Mathlib.Decide.{ℕ_discrete}
use native.Mathlib.Nat.{not-suc-le-zero, eq-or-lt_of_le, le_of_suc-le-suc, zero-add}
use native.Mathlib.Numerals.{add-one}
use native.Mathlib.Omega.{arith}
use lib.Dec.{ltb}
use lib.ListN.{length, length-replicate, replicate}
use borrow.Author.Tests.{lt-ltb, le-ltb}
use Rattle.paper.specs.Answers.{words}
use Rattle.paper.specs.Tests.{any_below}
use Rattle.paper.specs.Decide.{Test, exactly}
use Rattle.paper.specs.Cuts.{Opt, Byte, Stretch, Split, Nil}
use Rattle.paper.specs.Gate.{n_of, rows_of, root_of, option_count, head_at, option_at, opt_of, opts_of, holds, read, reading}
use Rattle.paper.proofs.Tests.{any_none, any_suc, any_of_table}
use Rattle.paper.proofs.Obeys.{Obeys}
use Rattle.paper.proofs.WellFormed.{Formed, formed_level}
use Rattle.workspace.specs.Spans.{span_at}
use Rattle.workspace.specs.Bits.{bit_at, set_bit}
use Rattle.workspace.proofs.Spans.{lt_or_le, span_lt, span_inj}
use Rattle.workspace.proofs.Bits.{length_set_bit, set_bit_same, set_bit_other, set_bit_apart, cleared_bit}
use Rattle.list.proofs.Formed.{option_obeys}
use Rattle.reading.specs.Marks.{in_table, in_turn, mark_start, mark_option, mark_at, mark_head, mark_group, marked}

-- ---- in turn

pub turn_none : (f : ℕ → List ℕ → List ℕ) (ws : List ℕ) → in_turn 0 f ws ≡ ws
unfolding in_turn
turn_none f ws = refl

pub turn_more : (f : ℕ → List ℕ → List ℕ) (n : ℕ) (ws : List ℕ) → in_turn (n + 1) f ws ≡ f n (in_turn n f ws)
unfolding in_turn
turn_more f n ws = rw (add-one, in_turn)

turn_keeps : (P : ℕ → List ℕ → Type 0) (f : ℕ → List ℕ → List ℕ) (ws : List ℕ) → P 0 ws
    → (n : ℕ) → ((j : ℕ) → j < n → (v : List ℕ) → P j v → P (suc j) (f j v)) → P n (in_turn n f ws)
unfolding in_turn
turn_keeps P f ws z zero s = z
turn_keeps P f ws z (suc n) s = s n (omega arith) _ (turn_keeps P f ws z n (λ j h v p. s j (omega arith) v p))

-- an option of a head, and all of them
module _ (l text word : List ℕ) (m r o : ℕ) (e : o ≡ head_at l m r) (ws : List ℕ) where
  pub mark_at_lem : (j : ℕ) (x : Opt) → x ≡ opt_of l (option_at o j) → mark_option text word m r x ws ≡ mark_at l text word m r j ws
  unfolding mark_at
  mark_at_lem j x p = rw (p, e)

  pub mark_head_lem : (n : ℕ) → n ≡ option_count l o → in_turn n (mark_at l text word m r) ws ≡ mark_head l text word m r ws
  unfolding mark_head
  mark_head_lem n p = rw (p, e)

-- ---- a bit that is set where a test passes

module _ (b : Bool) (ws : List ℕ) (i m r : ℕ) where
  abbrev after : List ℕ
  after = cond b (set_bit ws (span_at i m) r) ws

  after_long : length after ≡ length ws
  after_long = go b
    where
      go : (b : Bool) → length (cond b (set_bit ws (span_at i m) r) ws) ≡ length ws
      go true = length_set_bit ws (span_at i m) r
      go false = refl

  after_same : i + m ≤ 60 → r < 256 → 7564 ≤ length ws → in_table after m i r ≡ (b || in_table ws m i r)
  unfolding in_table
  after_same h l g = go b
    where
      go : (b : Bool) → bit_at (cond b (set_bit ws (span_at i m) r) ws) (span_at i m) r ≡ (b || bit_at ws (span_at i m) r)
      go true = set_bit_same ws (span_at i m) r (omega (arith, span_lt i m h)) l
      go false = refl

  after_other : r < 256 → (k j q : ℕ) → (k ≡ m → j ≡ i → q ≡ r → ⊥) → in_table after k j q ≡ in_table ws k j q
  unfolding in_table
  after_other l k j q ne = go b (ℕ_discrete (span_at j k) (span_at i m))
    where
      go : (b : Bool) → Dec (span_at j k ≡ span_at i m) → bit_at (cond b (set_bit ws (span_at i m) r) ws) (span_at j k) q ≡ bit_at ws (span_at j k) q
      go false d = refl
      go true (yes e) = rw e (set_bit_other ws (span_at i m) r q (λ p. let s = span_inj j k i m e in ne s.1 s.0 p))
      go true (no e) = set_bit_apart ws (span_at i m) r (span_at j k) q e l

-- ---- the table at length m and row r, of a well-formed list and a word of its length

module _ (l text word : List ℕ) where
  abbrev reads : Test
  reads = read text (exactly word) (opts_of l)

  -- the option holds of the m bytes from place i on, given the reading of the shorter lengths
  abbrev meets : ℕ → Opt → ℕ → Bool
  meets m x i = holds text (exactly word) reads m i x

-- the shorter lengths are read, at length m the rows before r; `own` is what row r has; there is nothing yet of later rows and lengths
record Stage (l text word : List ℕ) (m r : ℕ) (own : ℕ → Bool) (ws : List ℕ) : Type 0 where
  long : length ws ≡ 7564
  short : (k i q : ℕ) → k < m → i + k ≤ length word → q < rows_of l → in_table ws k i q ≡ reads l text word k i q
  done : (i q : ℕ) → i + m ≤ length word → q < r → in_table ws m i q ≡ reads l text word m i q
  here : (i : ℕ) → i + m ≤ length word → in_table ws m i r ≡ own i
  next : (i q : ℕ) → i + m ≤ length word → r < q → in_table ws m i q ≡ false
  later : (k i q : ℕ) → m < k → i + k ≤ length word → in_table ws k i q ≡ false

none : ℕ → Bool
none i = false

module _ (l text word : List ℕ) (f : Formed l (length text)) (n : length word ≡ n_of l) where
  abbrev At : (m r : ℕ) → (ℕ → Bool) → List ℕ → Type 0
  At m r own ws = Stage l text word m r own ws

  module _ (m r : ℕ) (h : m ≤ n_of l) (u : r < rows_of l) where
    stage_own : (own own' : ℕ → Bool) (ws : List ℕ) → ((i : ℕ) → i + m ≤ length word → own i ≡ own' i) → At m r own ws → At m r own' ws
    stage_own own own' ws e s = record {
      long = s.long;
      short = s.short;
      done = s.done;
      here = λ i v. s.here i v ∙ e i v;
      next = s.next;
      later = s.later;
    }

    -- one start
    stage_start : (own own' : ℕ → Bool) (ws : List ℕ) (b : Bool) (i : ℕ) → i + m ≤ length word → own' i ≡ (b || own i)
        → ((j : ℕ) → (j ≡ i → ⊥) → own' j ≡ own j) → At m r own ws → At m r own' (cond b (set_bit ws (span_at i m) r) ws)
    stage_start own own' ws b i v e e' s =
        let c60 : i + m ≤ 60 = omega (arith, f.trailer.most) in
        let c256 : r < 256 = omega (arith, f.trailer.few) in
        let big : 7564 ≤ length ws = omega (arith, s.long) in
        record {
          long = after_long b ws i m r ∙ s.long;
          short = λ k j q a x y. after_other b ws i m r c256 k j q (λ p o z. omega arith) ∙ s.short k j q a x y;
          done = λ j q x y. after_other b ws i m r c256 m j q (λ p o z. omega arith) ∙ s.done j q x y;
          here = λ j x. at j x (ℕ_discrete j i) c60 c256 big;
          next = λ j q x y. after_other b ws i m r c256 m j q (λ p o z. omega arith) ∙ s.next j q x y;
          later = λ k j q x y. after_other b ws i m r c256 k j q (λ p o z. omega arith) ∙ s.later k j q x y;
        }
      where
        at : (j : ℕ) → j + m ≤ length word → Dec (j ≡ i) → i + m ≤ 60 → r < 256 → 7564 ≤ length ws → in_table (cond b (set_bit ws (span_at i m) r) ws) m j r ≡ own' j
        at j x (yes p) c60 c256 big = rw p (after_same b ws i m r c60 c256 big ∙ ap (λ t. b || t) (s.here i v) ∙ sym e)
        at j x (no p) c60 c256 big = after_other b ws i m r c256 m j r (λ z o y. p o) ∙ s.here j x ∙ sym (e' j p)

    -- a step reads shorter lengths only
    meets_same : (own : ℕ → Bool) (ws : List ℕ) → At m r own ws → (x : Opt) → Obeys (length text) (rows_of l) m x
        → (i : ℕ) → i + m ≤ length word → holds text (exactly word) (in_table ws) m i x ≡ meets l text word m x i
    unfolding holds
    meets_same own ws s (Byte lo hi) o i v = refl
    meets_same own ws s (Stretch off len) o i v = refl
    meets_same own ws s (Split k a b) o i v =
        rw (s.short k i a o.1 (omega (arith, o.1)) o.2, s.short (m - k) (i + k) b (omega (arith, o.0, o.1)) (omega (arith, o.1)) o.3)
    meets_same own ws s Nil o i v = refl

    -- an option, at the starts below c
    module _ (x : Opt) (o : Obeys (length text) (rows_of l) m x) (own : ℕ → Bool) where
      up_to : ℕ → ℕ → Bool
      up_to c i = cond (ltb i c) (meets l text word m x i || own i) (own i)

      up_to_same : (c : ℕ) → up_to (suc c) c ≡ (meets l text word m x c || up_to c c)
      unfolding up_to
      up_to_same c = rw (lt-ltb c (suc c) (omega arith), le-ltb c c (omega arith))

      up_to_other : (c j : ℕ) → (j ≡ c → ⊥) → up_to (suc c) j ≡ up_to c j
      unfolding up_to
      up_to_other c j ne =
          lt_or_le j c (λ h. rw (lt-ltb j c h, lt-ltb j (suc c) (omega arith)))
          (λ h. rw (le-ltb j c h, le-ltb j (suc c) (omega arith)))

      stage_option : (ws : List ℕ) → At m r own ws → At m r (λ i. meets l text word m x i || own i) (mark_option text word m r x ws)
      unfolding mark_option mark_start up_to
      stage_option ws s =
          stage_own (up_to (suc (length word) - m)) (λ i. meets l text word m x i || own i) _ (λ i v. rw (lt-ltb i (suc (length word) - m) (omega arith)))
          (turn_keeps (λ c v. At m r (up_to c) v) (mark_start text word m r x) ws
          (stage_own own (up_to 0) ws (λ i v. rw (le-ltb i 0 (omega arith))) s)
          (suc (length word) - m)
          (λ c z v t.
          let y : c + m ≤ length word = omega arith in
          stage_start (up_to c) (up_to (suc c)) v (holds text (exactly word) (in_table v) m c x) c y
          (up_to_same c ∙ ap (λ b. b || up_to c c) (sym (meets_same (up_to c) v t x o c y))) (up_to_other c) t))

    opt : ℕ → Opt
    opt j = opt_of l (option_at (head_at l m r) j)

    -- the options below j
    some : ℕ → ℕ → Bool
    some j i = any_below j (λ q. meets l text word m (opt q) i)

    some_all : (i : ℕ) → some (option_count l (head_at l m r)) i ≡ reads l text word m i r
    unfolding some opts_of opt
    some_all i =
        sym (formed_level l (length text) f text (exactly word) m i r h u ∙ any_of_table (λ x. meets l text word m x i) 0 (option_count l (head_at l m r)) opt ∙ simp zero-add)

    stage_head : (ws : List ℕ) → At m r none ws → At m (suc r) none (mark_head l text word m r ws)
    unfolding mark_head mark_at some opt none
    stage_head ws s = step _
        (stage_own (some (option_count l (head_at l m r))) (λ i. reads l text word m i r) _ (λ i v. some_all i)
        (turn_keeps (λ j v. At m r (some j) v) (mark_at l text word m r) ws
        (stage_own none (some 0) ws (λ i v. sym (any_none _)) s)
        (option_count l (head_at l m r))
        (λ j z v t.
        stage_own (λ i. meets l text word m (opt j) i || some j i) (some (suc j)) _ (λ i y. sym (any_suc j (λ q. meets l text word m (opt q) i)))
        (stage_option (opt j) (option_obeys l (length text) f m r h u j z) (some j) v t))))
      where
        step : (v : List ℕ) → At m r (λ i. reads l text word m i r) v → At m (suc r) none v
        step v t = record {
          long = t.long;
          short = t.short;
          done = λ i q x y. ⊎_elim (λ (p : q ≡ r). rw p (t.here i x)) (λ (p : q < r). t.done i q x p) (eq-or-lt_of_le (le_of_suc-le-suc y));
          here = λ i x. t.next i (suc r) x (omega arith);
          next = λ i q x y. t.next i q x (omega arith);
          later = t.later;
        }

  stage_group : (m : ℕ) → m ≤ n_of l → (ws : List ℕ) → At m 0 none ws → At (suc m) 0 none (mark_group l text word m ws)
  unfolding mark_group none
  stage_group m h ws s = step _ (turn_keeps (λ r v. At m r none v) (mark_head l text word m) ws s (rows_of l) (λ r u v t. stage_head m r h u v t))
    where
      step : (v : List ℕ) → At m (rows_of l) none v → At (suc m) 0 none v
      step v t = record {
        long = t.long;
        short = λ k i q x y z. ⊎_elim (λ (p : k ≡ m). rw p (t.done i q (omega arith) z)) (λ (p : k < m). t.short k i q p y z) (eq-or-lt_of_le (le_of_suc-le-suc x));
        done = λ i q x y. absurd (not-suc-le-zero y);
        here = λ i x. t.later (suc m) i 0 (omega arith) x;
        next = λ i q x y. t.later (suc m) i q (omega arith) x;
        later = λ k i q x y. t.later k i q (omega arith) y;
      }

  stage_all : (ws : List ℕ) → At 0 0 none ws → At (suc (n_of l)) 0 none (marked l text word ws)
  unfolding marked
  stage_all ws s = turn_keeps (λ m v. At m 0 none v) (mark_group l text word) ws s (suc (n_of l)) (λ m u v t. stage_group m (le_of_suc-le-suc u) v t)

  stage_none : At 0 0 none (replicate 7564 0)
  unfolding none in_table
  stage_none = record {
    long = length-replicate {A = ℕ} 7564 0;
    short = λ k i q x y z. absurd (not-suc-le-zero x);
    done = λ i q x y. absurd (not-suc-le-zero y);
    here = λ i x. clean 0 i 0 x;
    next = λ i q x y. clean 0 i q x;
    later = λ k i q x y. clean k i q y;
  }
    where
      clean : (k i q : ℕ) → i + k ≤ length word → bit_at (replicate 7564 0) (span_at i k) q ≡ false
      clean k i q x = cleared_bit 7564 (span_at i k) q (omega (arith, span_lt i k (omega (arith, f.trailer.most))))

  end : At (suc (n_of l)) 0 none (marked l text word (replicate 7564 0))
  end = stage_all (replicate 7564 0) stage_none

  -- THE TABLE AT THE END, filled from a zeroed one: the root's bit is the reading
  module _ (ws : List ℕ) (e : ws ≡ marked l text word (replicate words 0)) where
    pub marked_reads : (s q : ℕ) → s ≡ span_at 0 (length word) → q ≡ root_of l → bit_at ws s q ≡ reading l text word
    unfolding reading words in_table
    marked_reads s q a b = rw (e, a, b) (end.short (length word) 0 (root_of l) (omega arith) (omega arith) f.trailer.root)
