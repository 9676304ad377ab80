-- What the types of this crate are, over numbers: document 01's number and values for each case of an answer. Assumes nothing.
use Rattle.std.specs.Prelude.{ℕ, Result}
use Rattle.util.specs.View.{says}
use Rattle.util.specs.declared.refusal.Refusal.{Refusal}
use Rattle.cast.specs.declared.Granted.{Granted}
use Rattle.util_defs.specs.Refusal.{Outcome}
use Rattle.cast_defs.specs.Cast.{Side, prefix, suffix, Grant}
use Rattle.cast.specs.declared.CastType.{CastType}
use Rattle.cast.specs.declared.CastType.TheVariants as Kind

abbrev pub side_of : CastType → Side
side_of Kind.Prefix = prefix
side_of Kind.Suffix = suffix

-- what a cast grants
abbrev pub grant_of : Granted ℕ → Grant
grant_of g = record { count = g.elems; split = g.split_at }

abbrev pub cast_says : Result (Granted ℕ) Refusal → Outcome Grant
cast_says = says grant_of
