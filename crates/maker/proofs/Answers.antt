-- What the maker says and leaves: each refusal, and the list written.
-- Assumes nothing.
use Prim.Native.Nat.{ℕ, zero, suc, ◌+◌, ◌*◌, ◌≤◌, ◌<◌}
use mathlib.Core.Path.{◌≡◌, refl, sym, ap, ◌∙◌}
use mathlib.Core.List.{List, ◌++◌}
use native.Mathlib.Omega.{arith}
use native.Mathlib.Numerals.{add-one}
use lib.ListN.{length}
use borrow.Author.Tests.{eq-eqb, ne_eqb, lt-ltb, le-ltb, le-leb, lt-leb}
use Rattle.std.specs.Prelude.{Ok, Err}
use Rattle.paper.specs.Bytes.{u16, u32}
use Rattle.paper.specs.Tests.{gather}
use Rattle.paper.specs.Trailer.{count_of}
use Rattle.paper.specs.Refusals as paper
use Rattle.paper.specs.Refusals.{plain, no_fault, latest, refusal, Accepted}
use Rattle.paper.specs.Rows.{Grammar}
use Rattle.paper.specs.Sheet.{grammar_of}
use Rattle.paper.specs.Cuts.{groups, list_trailer, cut_list}
use Rattle.paper.specs.Answers.{written, maker_refusal, maker_says, space_after}
use Rattle.paper.specs.Promises.{Makes}
use Rattle.paper.proofs.Gathered.{gather_length}
use Rattle.paper.proofs.Encoding.{length_u32, length_list}
use Rattle.numbers.specs.Put.{Put}
use Rattle.numbers.proofs.Stores.{put_more, put_same, put_written}
use Rattle.sheet.specs.declared.Fault.{Fault}
use Rattle.sheet.specs.Told.{told, made}
use Rattle.sheet.proofs.Telling.{told_err, made_err}
use Rattle.maker_options.specs.Prepared.{Offsets}
use Rattle.maker.specs.Trailer.{offset_bytes, ending_bytes, trailer_bytes}

-- ---- the trailer, and the whole list

pub offsets_size : (offsets : List ℕ) (m : ℕ) → length (gather 0 m (offset_bytes offsets)) ≡ 4 * m
unfolding offset_bytes
offsets_size offsets m = gather_length 4 0 m (offset_bytes offsets) (λ k. length_u32 _) ∙ omega arith

gather_same : (f h : ℕ → List ℕ) (i n : ℕ) → ((k : ℕ) → k < i + n → f k ≡ h k) → gather i n f ≡ gather i n h
unfolding gather
gather_same f h i zero e = refl
gather_same f h i (suc n) e = rw (e i (omega arith), gather_same f h (suc i) n (λ k l. e k (omega arith)))

module _ (g : Grammar) (root n : ℕ) (offsets : List ℕ) (x : Offsets g (n + 1) offsets) where
  offsets_are : gather 0 (n + 1) (offset_bytes offsets) ≡ gather 0 (suc n) (λ m. u32 (length (groups g m)))
  unfolding offset_bytes
  offsets_are = rw add-one (gather_same (λ m. offset_bytes offsets m) (λ m. u32 (length (groups g m))) 0 (suc n) (λ k l. ap u32 (x.each k (omega arith))))

  trailer_is : trailer_bytes offsets root (length g.rows) n (length (groups g (suc n)) + (4 * n + 20)) ≡ list_trailer g root n
  unfolding trailer_bytes ending_bytes list_trailer u16 u32
  trailer_is = ap (λ (z : List ℕ). z ++ ending_bytes root (length g.rows) n (length (groups g (suc n)) + (4 * n + 20))) offsets_are

  list_is : (p rows : ℕ) → p ≡ length (groups g (n + 1)) → rows ≡ length g.rows → groups g (n + 1) ++ trailer_bytes offsets root rows n (p + (4 * n + 20)) ≡ cut_list g root n
  unfolding cut_list
  list_is p rows e f = rw (e, f, add-one) (ap (λ (z : List ℕ). groups g (suc n) ++ z) trailer_is)

pub list_length : (g : Grammar) (root n : ℕ) → length (groups g (n + 1)) + (4 * n + 20) ≡ length (cut_list g root n)
list_length g root n = rw add-one (sym (length_list g root n))

-- ---- the numbers

module _ (s : List ℕ) (row n space : ℕ) where
  pub refused_sheet : ((refusal latest s).number ≡ 0 → ⊥) → maker_refusal s row n space ≡ refusal latest s
  unfolding maker_refusal
  refused_sheet h = rw (ne_eqb (refusal latest s).number 0 h)

  module _ (a : Accepted s) where
    pub refused_row : count_of s 2 ≤ row → maker_refusal s row n space ≡ plain 20
    unfolding maker_refusal
    refused_row h = rw (eq-eqb (refusal latest s).number 0 a, le-ltb row (count_of s 2) h)

    module _ (b : row < count_of s 2) where
      pub refused_length : 60 < n → maker_refusal s row n space ≡ plain 21
      unfolding maker_refusal
      refused_length h = rw (eq-eqb (refusal latest s).number 0 a, lt-ltb row (count_of s 2) b, lt-leb n 60 h)

      pub refused_space : n ≤ 60 → space < length (cut_list (grammar_of s) row n) → maker_refusal s row n space ≡ plain 22
      unfolding maker_refusal
      refused_space c h = rw (eq-eqb (refusal latest s).number 0 a, lt-ltb row (count_of s 2) b, le-leb n 60 c, lt-leb (length (cut_list (grammar_of s) row n)) space h)

      pub not_refused : n ≤ 60 → length (cut_list (grammar_of s) row n) ≤ space → maker_refusal s row n space ≡ no_fault
      unfolding maker_refusal
      not_refused c h = rw (eq-eqb (refusal latest s).number 0 a, lt-ltb row (count_of s 2) b, le-leb n 60 c, le-leb (length (cut_list (grammar_of s) row n)) space h)

-- ---- what is said, and what is left

module _ (s : List ℕ) (row n : ℕ) (old : List ℕ) where
  -- a refusal reports its fault and changes nothing
  pub answer_refused : (x : paper.Fault) {f : Fault} → maker_refusal s row n (length old) ≡ x → Err f ≡ told x → Makes made s row n old (Err f) old
  unfolding maker_says space_after
  answer_refused x e t = record { said = rw e (made_err x (cut_list (grammar_of s) row n) t); wrote = rw (e, ne_eqb x.number 0 (told_err x t)) }

  pub answer_written : (k : ℕ) (now : List ℕ) → maker_refusal s row n (length old) ≡ no_fault → k ≡ length (cut_list (grammar_of s) row n) → now ≡ written (cut_list (grammar_of s) row n) old
      → Makes made s row n old (Ok k) now
  unfolding maker_says space_after
  answer_written k now e h w = record { said = rw (e, h); wrote = rw e w }

-- the groups and the trailer, written one behind the other, are the list
pub written_list : (g : Grammar) (root n rows p end : ℕ) (offsets a b c : List ℕ) → Offsets g (n + 1) offsets → rows ≡ length g.rows → length (cut_list g root n) ≤ length a
    → Put (groups g (n + 1)) 0 a b p → Put (trailer_bytes offsets root rows n (p + (4 * n + 20))) p b c end → c ≡ written (cut_list g root n) a
written_list g root n rows p end offsets a b c x e h f k = put_written h (put_same (list_is g root n offsets x p rows (omega (arith, f.stop)) e) (put_more f k))
