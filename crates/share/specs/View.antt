-- What the types of this crate are, over numbers, and what 32 bits keep of a share. Assumes nothing.
use Rattle.std.specs.Prelude.{ℕ, Result}
use Rattle.util_defs.specs.Placed.{Placed}
use Rattle.gcd_defs.specs.Fraction.{Fraction}
use Rattle.share_defs.specs.Share.{Share}
use Rattle.widths_defs.specs.Low.{low}
use Rattle.util.specs.View.{placed_says}
use Rattle.util.specs.declared.refusal.RefusedAt.{RefusedAt}
use Rattle.share.specs.declared.Fraction as given-fraction
use Rattle.share.specs.declared.Share as given

abbrev pub fraction_of : given-fraction.Fraction ℕ ℕ → Fraction
fraction_of r = record { numerator = r.numerator; denominator = r.denominator }

abbrev pub share_is : given.Share ℕ → Share
share_is r = record {
  padding = fraction_of r.padding;
  mean = fraction_of r.mean;
  greatest = r.greatest;
  index = r.index;
}

abbrev pub share_says : Result (given.Share ℕ) (RefusedAt ℕ) → Placed Share
share_says = placed_says share_is

-- what v bits keep of a share: all of it where they hold its numbers; the number of counts and an index stay
abbrev pub low_share : ℕ → Share → Share
low_share v r = record {
  padding = record { numerator = low v r.padding.numerator; denominator = low v r.padding.denominator };
  mean = record { numerator = low v r.mean.numerator; denominator = r.mean.denominator };
  greatest = low v r.greatest;
  index = r.index;
}
