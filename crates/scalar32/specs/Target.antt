-- The scalars of the 32-bit target (document 02, request 7: "on x86, u64 and f64 are only aligned to 4 bytes", "usize is 4
-- bytes"; the Reference's rules layout.primitive.align and layout.primitive.size). Assumes nothing.
use Rattle.std.specs.Prelude.{[], ◌∷◌, ℕ}
use Rattle.scalar.specs.Scalar.{Target}

-- the 32-bit target: u64 and f64 have 8 bytes and alignment 4, usize has 4 bytes
abbrev pub target32 : Target
target32 = record { sizes = 1 ∷ 2 ∷ 4 ∷ 8 ∷ 4 ∷ 8 ∷ 4 ∷ 1 ∷ 4 ∷ []; aligns = 1 ∷ 2 ∷ 4 ∷ 4 ∷ 4 ∷ 4 ∷ 4 ∷ 1 ∷ 4 ∷ [] }

-- the greatest alignment of a scalar: one of more bytes has it, of any other the alignment is its size
abbrev pub greatest_scalar_align : ℕ
greatest_scalar_align = 4
