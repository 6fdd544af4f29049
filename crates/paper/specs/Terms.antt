-- Parts, terms and cuts. A place of a term is a byte that is known or one that is not.
use Rattle.std.specs.Prelude.{ℕ, ◌+◌, ◌-◌, Bool, true, cond, ◌||◌, List, [], ◌∷◌, ◌++◌, map, eqb, leb, length, take, drop, replicate}
use Rattle.paper.specs.Rows.{stretch}
use Rattle.paper.specs.Rules.{Rules, shortens}

pub data Part : Type 0 where
  Const : ℕ → ℕ → Part  -- 1: text from offset a, b bytes
  All : Part  -- 2: all of v
  Cut : ℕ → ℕ → Part  -- 3: b bytes of v from position a

-- the part of a kind with its a and b
unfoldable pub part_of : (kind a b : ℕ) → Part
part_of kind a b =
    cond (eqb kind 1) (Const a b)
    (cond (eqb kind 2) All
    (Cut a b))

pub data Place : Type 0 where
  Known : ℕ → Place
  Unknown : Place

-- v at length n under a prefix: the prefix's bytes are known, the others not
unfoldable pub places_of : ℕ → List ℕ → List Place
places_of n p = map Known p ++ replicate (n - length p) Unknown

-- what one part stands for, given the text and v; `known` makes an element of a byte, so that v may be a word or a list of places;
-- a cut off the end has "the bytes up to the end of v, none if the position is at or past the end"
unfoldable pub piece : {A : Type 0} → (ℕ → A) → List ℕ → List A → Part → List A
piece known text v (Const a b) = map known (stretch 0 text a b)
piece known text v All = v
piece known text v (Cut a b) = take b (drop a v)

-- "a term is a run of parts, joined; no parts is the empty word"
unfoldable pub term : {A : Type 0} → (ℕ → A) → List ℕ → List A → List Part → List A
term known text v [] = []
term known text v (p ∷ ps) = piece known text v p ++ term known text v ps

-- 17: the bytes of a part at length n, "a cut counting its full b"
unfoldable pub full_length : ℕ → Part → ℕ
full_length n (Const a b) = b
full_length n All = n
full_length n (Cut a b) = b

-- a cut is shortened by the rule, or does not reach past the end of v at length n
unfoldable pub cut_inside : Rules → ℕ → Part → Bool
cut_inside r n (Const a b) = true
cut_inside r n All = true
cut_inside r n (Cut a b) = shortens r || leb (a + b) n
