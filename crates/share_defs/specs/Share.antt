-- How much of the sizes is padding (document 02, request 12). Assumes nothing.
use Rattle.std.specs.Prelude.{◌≡◌, cond, List, [], ◌∷◌, ℕ, eqb, length}
use Rattle.util_defs.specs.Refusal.{Cause}
use Rattle.util_defs.specs.Placed.{Placed, reached, at_place, go_on, judged}
use Rattle.rounding.specs.Word.{word_zero}
use Rattle.trailing_defs.specs.Size.{Trailing}
use Rattle.gcd_defs.specs.Fraction.{Fraction, reduced}
use Rattle.share_defs.specs.Totals.{Totals, no_totals, totals_from}

-- what is given: total padding over total size, the mean size, and the greatest padding with its first index
pub record Share : Type 0 where
  pub padding : Fraction
  pub mean : Fraction
  pub greatest : ℕ
  pub index : ℕ

-- "0 over 1 for total 0"
abbrev pub nothing : Fraction
nothing = record { numerator = 0; denominator = 1 }

-- of the totals of n counts
abbrev pub share_of : ℕ → Totals → Share
share_of n x = record {
  padding = cond (eqb x.sizes 0) nothing (reduced x.paddings x.sizes);
  mean = reduced x.sizes n;
  greatest = x.greatest;
  index = x.index;
}

-- 51: the slice of counts is empty
abbrev pub no_counts : List ℕ → Cause
no_counts ns = record { number = 51; test = eqb (length ns) 0; means = length ns ≡ 0 }

-- what refuses before any count: 2 of the layout, then 51
abbrev pub list_causes : Trailing → List ℕ → List Cause
list_causes t ns = word_zero t.word ∷ no_counts ns ∷ []

-- the totals over the whole list, where nothing refuses it
unfoldable pub sums_for : ℕ → Trailing → List ℕ → Placed Totals
sums_for w t ns = at_place 0 (judged (list_causes t ns)) (λ _. totals_from w t 0 ns no_totals)

-- `padding_of_counts`
unfoldable pub share_for : ℕ → Trailing → List ℕ → Placed Share
share_for w t ns = go_on (sums_for w t ns) (λ x. reached (share_of (length ns) x))
