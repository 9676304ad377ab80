-- All short member lists, for the test bench (document 02, request 10): every list of up to n of u8, u16, u32 and u64, each under
-- packing none, 1, 2, 4 and 8. Assumes nothing.
use mathlib.Core.List.{List, [], ◌∷◌, ◌++◌, map, flat_map}
use Rattle.std.specs.Prelude.{ℕ, zero, suc, ◌+◌, ◌-◌, ◌*◌, ◌^◌, length, replicate}

-- a case: the scalar codes of the members, from the left, and the packing, 0 for none
pub record Case : Type 0 where
  pub codes : List ℕ
  pub packing : ℕ

-- u8, u16, u32 and u64 by their codes, and the packings, in their order
abbrev pub scalars : List ℕ
scalars = 0 ∷ 1 ∷ 2 ∷ 3 ∷ []

abbrev pub packings : List ℕ
packings = 0 ∷ 1 ∷ 2 ∷ 4 ∷ 8 ∷ []

-- every list of k codes, by code from the left: each code in turn, before every list of one code fewer
unfoldable pub lists_of : ℕ → List (List ℕ)
lists_of zero = [] ∷ []
lists_of (suc k) = flat_map (λ c. map (λ cs. c ∷ cs) (lists_of k)) scalars

-- a list under each packing, and every list of k codes so
abbrev pub under_each : List ℕ → List Case
under_each cs = map (λ q. record { codes = cs; packing = q }) packings

abbrev pub cases_of : ℕ → List Case
cases_of k = flat_map under_each (lists_of k)

-- "Shorter lists come first": every case of up to n members
unfoldable pub cases_to : ℕ → List Case
cases_to zero = cases_of zero
cases_to (suc n) = cases_to n ++ cases_of (suc n)

-- 1 + 4 + .. + 4^n: how many lists there are
unfoldable pub list_count : ℕ → ℕ
list_count zero = 1
list_count (suc n) = list_count n + 4 ^ suc n

-- the greatest length that is taken
abbrev pub greatest_length : ℕ
greatest_length = 6

-- "Each case is written as one 8-byte record: length, packing (0 for none), six codes, unused ones 255"
abbrev pub case_length : ℕ
case_length = 2 + greatest_length

abbrev pub unused : ℕ
unused = 255

abbrev pub case_bytes : Case → List ℕ
case_bytes c = length c.codes ∷ c.packing ∷ c.codes ++ replicate (greatest_length - length c.codes) unused

-- one behind the other
abbrev pub cases_bytes : List Case → List ℕ
cases_bytes cs = flat_map case_bytes cs
