-- How the padding over a list of counts at 32 bits crosses to C: 0 in place of each number beside a refusal. Assumes nothing.
use Rattle.util_defs.specs.Placed.{Placed, reached, stopped}
use Rattle.share_defs.specs.Share.{Share}
use Rattle.exports32_share.specs.declared.PaddingOut32.{PaddingOut32}

abbrev pub share_out32 : Placed Share → PaddingOut32
share_out32 (reached r) = record {
  refusal = 0;
  place = 0;
  padding_numerator = r.padding.numerator;
  padding_denominator = r.padding.denominator;
  mean_numerator = r.mean.numerator;
  mean_denominator = r.mean.denominator;
  greatest = r.greatest;
  index = r.index;
}
share_out32 (stopped k i) = record {
  refusal = k;
  place = i;
  padding_numerator = 0;
  padding_denominator = 0;
  mean_numerator = 0;
  mean_denominator = 0;
  greatest = 0;
  index = 0;
}
