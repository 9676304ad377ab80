-- `short::read_short` meets its contract. Assumes nothing.
use mathlib.Core.Path.{ap, ◌∙◌}
use Prim.Native.Nat.{ℕ, ◌/◌, ◌%◌}
use native.Mathlib.Omega.{arith}
use Rattle.words.proofs.LittleEndian.{read_within}
use Rattle.short_defs.proofs.Told.{last_read}
use Rattle.short.proofs.read_short.Goals as goal

pub returns : goal.returns
returns c = let s = c.args.s.now in let z = last_read s (λ j. (c.shared_slice_known-1.given j).fits) c.requires in let w = c.read_word-last.ensures ∙ read_within s 24 (omega (arith, c.requires)) in λ i. record { size = (c.read_word.ensures ∙ read_within s 0 (omega (arith, c.requires))) i; offset = (c.read_word-2.ensures ∙ read_within s 8 (omega (arith, c.requires))) i; elem = (c.read_word-3.ensures ∙ read_within s 16 (omega (arith, c.requires))) i; word = (ap (λ (x : ℕ). x % 4294967296) w ∙ z.word) i; power = (ap (λ (x : ℕ). x / 4294967296 % 256) w ∙ z.power) i; kind = (ap (λ (x : ℕ). x / 1099511627776 % 256) w ∙ z.kind) i; spare = (ap (λ (x : ℕ). x / 281474976710656) w ∙ z.spare) i }
