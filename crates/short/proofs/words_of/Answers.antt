-- `short::words_of` meets its contract. Assumes nothing.
use mathlib.Core.Path.{ap}
use Prim.Native.Nat.{ℕ}
use Rattle.short_defs.proofs.Told.{shifted}
use Rattle.short.proofs.words_of.Goals as goal

pub returns : goal.returns
returns c = ap (λ (a : ℕ). record { align = a; kind = c.args.r.kind; size = c.args.r.size; offset = c.args.r.offset; elem = c.args.r.elem_size; word = c.args.r.word }) (shifted c.args.r.power c.requires)
