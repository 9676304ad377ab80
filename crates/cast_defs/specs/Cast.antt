-- Casts (document 01, module 5): bytes at an address read as a layout. Assumes nothing.
use Rattle.std.specs.Prelude.{◌≡◌, Bool, false, not, List, [], ◌∷◌, ◌++◌, ℕ, ◌+◌, ◌-◌, ◌%◌, ◌≤◌, ◌<◌, eqb, ltb}
use Rattle.util_defs.specs.Width.{M}
use Rattle.util_defs.specs.Refusal.{Outcome, Cause, unless}
use Rattle.trailing_defs.specs.Count.{count_within}
use Rattle.layout_defs.specs.Layout.{Info, fixed, trailing, Layout, IsCount, size_in, layout_causes}

-- a cast takes its bytes from the front, or from the end
pub data Side : Type 0 where
  prefix : Side
  suffix : Side

-- the address that must be a multiple of the alignment: prefix tests the address, suffix the address plus length
abbrev pub tested_address : Side → ℕ → ℕ → ℕ
tested_address prefix addr len = addr
tested_address suffix addr len = addr + len

-- where the bytes split: after the size, or that much before the end
abbrev pub split_at : Side → ℕ → ℕ → ℕ
split_at prefix len size = size
split_at suffix len size = len - size

-- n is the greatest count whose size is at most L; a fixed layout has the one count 0
pub record Greatest (w : ℕ) (i : Info) (L n : ℕ) : Type 0 where
  pub count : IsCount i n
  pub fits : size_in w i n ≤ L
  pub greatest : (m : ℕ) → IsCount i m → size_in w i m ≤ L → m ≤ n

-- that count, where there is one (`greatest_in`)
abbrev pub count_in : ℕ → Info → ℕ → ℕ
count_in w (fixed s) L = 0
count_in w (trailing t) L = count_within w t L

-- 10: a cast with e = 0; a fixed layout has no elements
abbrev pub IsElemZero : Info → Type 0
IsElemZero (fixed s) = ⊥
IsElemZero (trailing t) = t.elem ≡ 0

abbrev pub is_elem_zero : Info → Bool
is_elem_zero (fixed s) = false
is_elem_zero (trailing t) = eqb t.elem 0

abbrev pub elem_zero : Info → Cause
elem_zero i = record { number = 10; test = is_elem_zero i; means = IsElemZero i }

-- 11: address plus length is above M
abbrev pub address_passes : ℕ → ℕ → ℕ → Cause
address_passes w addr len = record { number = 11; test = ltb (M w) (addr + len); means = M w < addr + len }

-- 12: the tested address is not a multiple of the alignment
abbrev pub not_aligned : ℕ → ℕ → Cause
not_aligned a v = record { number = 12; test = not (eqb (v % a) 0); means = v % a ≡ 0 → ⊥ }

-- 13: no count has a size of at most the length
abbrev pub too_small : ℕ → Info → ℕ → Cause
too_small w i len = record {
  number = 13;
  test = ltb len (size_in w i 0);
  means = (n : ℕ) → IsCount i n → size_in w i n ≤ len → ⊥;
}

-- what refuses a cast of a layout that is accepted; all that refuses a cast
abbrev pub bytes_causes : ℕ → Layout → Side → ℕ → ℕ → List Cause
bytes_causes w l side addr len =
    elem_zero l.info
    ∷ address_passes w addr len
    ∷ not_aligned l.align (tested_address side addr len)
    ∷ too_small w l.info len
    ∷ []

abbrev pub cast_causes : ℕ → Layout → Side → ℕ → ℕ → List Cause
cast_causes w l side addr len = layout_causes w l ++ bytes_causes w l side addr len

-- what is granted: a count and a split
pub record Grant : Type 0 where
  pub count : ℕ
  pub split : ℕ

abbrev pub greatest_grant : ℕ → Info → Side → ℕ → Grant
greatest_grant w i side len = record { count = count_in w i len; split = split_at side len (size_in w i (count_in w i len)) }

-- `validate_cast_and_convert_metadata`: granted exactly when nothing in the table refuses it
unfoldable pub cast_for : ℕ → Layout → Side → ℕ → ℕ → Outcome Grant
cast_for w l side addr len = unless (cast_causes w l side addr len) (greatest_grant w l.info side len)

-- what a grant means
pub record GrantMeans (w : ℕ) (i : Info) (side : Side) (len : ℕ) (g : Grant) : Type 0 where
  pub greatest : Greatest w i len g.count
  pub split : g.split ≡ split_at side len (size_in w i g.count)
