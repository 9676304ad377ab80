-- Each meaning of the rounding word's functions is had by one answer at most. Assumes nothing.
use mathlib.Core.Path.{◌≡◌}
use Prim.Native.Nat.{ℕ}
use Rattle.rounding.specs.Word.{Components, PartsOf, AlignOf}
use Rattle.rounding.proofs.Words.{same_align, same_phase}

pub one_parts : {n : ℕ} (c d : Components) → PartsOf n c → PartsOf n d → c ≡ d
one_parts c d x y = λ i. record { align = same_align x y i; phase = same_phase x y i }

pub one_align : {n a b : ℕ} → AlignOf n a → AlignOf n b → a ≡ b
one_align x y = same_align x.word y.word
