-- What the answer of this crate is, over numbers. Assumes nothing.
use Rattle.std.specs.Prelude.{ℕ}
use Rattle.util.specs.View.{number_of}
use Rattle.cast_defs.specs.Cast.{Grant}
use Rattle.cast.specs.declared.Granted.{Granted}
use Rattle.front_defs.specs.Front.{Serving, of_map, of_spare, of_neither}
use Rattle.front.specs.declared.Serving as Declared
use Rattle.front.specs.declared.Serving.TheVariants as Variant

-- the numbers as f sees them
abbrev pub granted_at : {N : Type 0} → (N → ℕ) → Granted N → Grant
granted_at f g = record { count = f g.elems; split = f g.split_at }

abbrev pub serving_at : {N : Type 0} → (N → ℕ) → Declared.Serving N → Serving
serving_at f (Variant.Map g) = of_map (granted_at f g)
serving_at f (Variant.Spare k g) = of_spare (number_of k) (granted_at f g)
serving_at f (Variant.Neither k j) = of_neither (number_of k) (number_of j)

-- the same of whole numbers
abbrev pub serving_says : Declared.Serving ℕ → Serving
serving_says = serving_at (λ n. n)
