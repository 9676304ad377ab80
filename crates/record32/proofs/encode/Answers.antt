-- `record32::encode` meets its contract. Assumes nothing.
use Rattle.layout.specs.View.{layout_of}
use mathlib.Core.Path.{ap, ◌∙◌}
use Prim.Native.Nat.{◌^◌, ◌<◌}
use native.Mathlib.Omega.{arith}
use lib.ListN.{length}
use Rattle.layout_defs.specs.Layout.{Layout}
use Rattle.record_defs.specs.Record.{encode_for, encoded_into}
use Rattle.record32.proofs.Narrowed.{encode_same, encoded_same}
use Rattle.record32.proofs.encode.Goals as goal

pub returns-clause-answer : goal.returns-clause-answer
returns-clause-answer c = let l = layout_of c.args.layout in let h = c.wide_layout.ensures.1.align in let g : l.align < 2 ^ 64 = omega (arith, h) in let e = c.wide_layout.ensures.0 in c.encode.ensures.answer ∙ ap (λ (z : Layout). encode_for 64 z (length c.args.out.now)) e ∙ encode_same 64 32 l (length c.args.out.now) g h

pub returns-clause-bytes : goal.returns-clause-bytes
returns-clause-bytes c = let l = layout_of c.args.layout in let h = c.wide_layout.ensures.1.align in let g : l.align < 2 ^ 64 = omega (arith, h) in let e = c.wide_layout.ensures.0 in c.encode.ensures.bytes ∙ ap (λ (z : Layout). encoded_into 64 z c.args.out.now) e ∙ encoded_same 64 32 l c.args.out.now g h
