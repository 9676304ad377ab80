-- What the answers of this crate are, over numbers: what was read, or document 02's number and the place. Assumes nothing.
use Rattle.std.specs.Prelude.{ℕ, Result}
use Rattle.util.specs.View.{placed_says}
use Rattle.util.specs.declared.refusal.RefusedAt.{RefusedAt}
use Rattle.heads.specs.declared.CountBytes.{CountBytes}
use Rattle.heads.specs.declared.CountBytes.TheVariants as BytesAre
use Rattle.heads.specs.declared.PartHead as Declared
use Rattle.heads.specs.declared.PartHead.TheVariants as HeadIs
use Rattle.util_defs.specs.Placed.{Placed}
use Rattle.describe_defs.specs.Describe.{Counted, by_one, by_two}
use Rattle.describe_defs.specs.Heads.{Head, code_head, array_head, struct_head, slice_head}

-- the bytes of a struct's member count
abbrev pub counted : CountBytes → Counted
counted BytesAre.One = by_one
counted BytesAre.Two = by_two

abbrev pub number_read : Result ℕ (RefusedAt ℕ) → Placed ℕ
number_read = placed_says (λ n. n)

abbrev pub head_in : Declared.PartHead → Head
head_in (HeadIs.Scalar b) = code_head b
head_in (HeadIs.Array n) = array_head n
head_in (HeadIs.Struct align packing n first) = struct_head align packing n first
head_in HeadIs.Slice = slice_head

abbrev pub head_says : Result Declared.PartHead (RefusedAt ℕ) → Placed Head
head_says = placed_says head_in
