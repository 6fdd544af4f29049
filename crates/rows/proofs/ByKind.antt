-- A row by its kind: its steps lead to rows, and are the steps that keep the length.
-- Assumes nothing.
use Prim.Native.Nat.{ℕ, ◌<◌}
use mathlib.Core.Path.{◌≡◌, refl, sym}
use mathlib.Core.Bool.{Bool, true, false}
use mathlib.Core.Logic.{◌⊎◌, inl, inr}
use Rattle.std.specs.Prelude.{Option, Some}
use Rattle.std.specs.Bool.{then_some}
use Rattle.paper.specs.Rows.{Row, Empty, Range, Text, Alt, Seq, Star, Grammar, row, Keeps}
use Rattle.paper.specs.Decide.{nullable}
use Rattle.paper.proofs.Reaching.{nullable_right}
use Rattle.paper.proofs.Sound.{SoundRow}
use Rattle.rows.specs.Sets.{steps_of}

-- a value that is there where a test passed
some_of : (b : Bool) {a p : ℕ} → then_some b a ≡ Some p → (b ≡ true) × (a ≡ p)
some_of true e = (refl, cc)
some_of false e = cc

-- they lead to rows
leads : (null : ℕ → Bool) (text n : ℕ) (x : Row) → SoundRow text n x
    → ((p : ℕ) → (steps_of null x).0 ≡ Some p → p < n) × ((p : ℕ) → (steps_of null x).1 ≡ Some p → p < n)
leads null text n Empty h = ((λ p e. cc), (λ p e. cc))
leads null text n (Range lo hi) h = ((λ p e. cc), (λ p e. cc))
leads null text n (Text off len) h = ((λ p e. cc), (λ p e. cc))
leads null text n (Alt a b) h = ((λ p e. let z : a ≡ p = cc in rw z at h.0), (λ p e. let z : b ≡ p = cc in rw z at h.1))
leads null text n (Seq a b) h = ((λ p e. rw (some_of (null b) e).1 at h.0), (λ p e. rw (some_of (null a) e).1 at h.1))
leads null text n (Star a) h = ((λ p e. let z : a ≡ p = cc in rw z at h), (λ p e. cc))

pub steps_in : (null : ℕ → Bool) (text n : ℕ) (x : Row) {to : Option ℕ × Option ℕ} → to ≡ steps_of null x → SoundRow text n x
    → ((p : ℕ) → to.0 ≡ Some p → p < n) × ((p : ℕ) → to.1 ≡ Some p → p < n)
steps_in null text n x e h = rw e (leads null text n x h)

module _ (g : Grammar) (r : ℕ) where
  -- p is a child to which one of them leads
  abbrev pub Led : Row → ℕ → Type 0
  Led x p = ((steps_of (nullable g) x).0 ≡ Some p) ⊎ ((steps_of (nullable g) x).1 ≡ Some p)

  -- they keep the length
  pub led_keeps : (x : Row) (p : ℕ) → x ≡ row g r → Led x p → Keeps g r p
  led_keeps Empty p e (inl h) = cc
  led_keeps Empty p e (inr h) = cc
  led_keeps (Range lo hi) p e (inl h) = cc
  led_keeps (Range lo hi) p e (inr h) = cc
  led_keeps (Text off len) p e (inl h) = cc
  led_keeps (Text off len) p e (inr h) = cc
  led_keeps (Alt a b) p e (inl h) = let z : a ≡ p = cc in Keeps.keep_left (rw z at (sym e))
  led_keeps (Alt a b) p e (inr h) = let z : b ≡ p = cc in Keeps.keep_right (rw z at (sym e))
  led_keeps (Seq a b) p e (inl h) = let z = some_of (nullable g b) h in Keeps.keep_first (rw z.1 at (sym e)) ((nullable_right g b).0 z.0)
  led_keeps (Seq a b) p e (inr h) = let z = some_of (nullable g a) h in Keeps.keep_second (rw z.1 at (sym e)) ((nullable_right g a).0 z.0)
  led_keeps (Star a) p e (inl h) = let z : a ≡ p = cc in Keeps.keep_star (rw z at (sym e))
  led_keeps (Star a) p e (inr h) = cc

  -- and there are no others
  pub keeps_led : (p : ℕ) → Keeps g r p → Led (row g r) p
  keeps_led p (Keeps.keep_left e) = rw e (inl refl)
  keeps_led p (Keeps.keep_right e) = rw e (inr refl)
  keeps_led p (Keeps.keep_first {b = d} e n) = rw (e, (nullable_right g d).1 n) (inl refl)
  keeps_led p (Keeps.keep_second {a = c} e n) = rw (e, (nullable_right g c).1 n) (inr refl)
  keeps_led p (Keeps.keep_star e) = rw e (inl refl)
