-- `record::words_from_layout` meets its contract. Assumes nothing.
use Prim.Native.Nat.{ℕ}
use mathlib.Core.Path.{sym, ap, ◌∙◌}
use Rattle.trailing.specs.View.{trailing_of}
use Rattle.layout.specs.declared.SizeInfo.{SizeInfo}
use Rattle.layout.specs.View.{info_of}
use Rattle.record_defs.specs.Record.{words_of}
use Rattle.record_defs.proofs.Records.{fixed_words, trailing_words}
use Rattle.record.proofs.words_from_layout.Goals as goal

pub returns-in-Sized : goal.returns-in-Sized
returns-in-Sized c =
    let x = c.args.l in
    fixed_words x.align c.marked_kind.result c.in-Sized.size x.statically_shallow_unpadded x.align_modifier c.marked_kind.ensures
    ∙ ap (λ (i : SizeInfo ℕ). words_of (record { align = x.align; info = info_of i; mark = x.statically_shallow_unpadded; modifier = x.align_modifier })) (sym c.in-Sized.is)

pub returns-in-SliceDst : goal.returns-in-SliceDst
returns-in-SliceDst c =
    let x = c.args.l in
    trailing_words x.align c.marked_kind-in-SliceDst.result (trailing_of c.in-SliceDst.tail) x.statically_shallow_unpadded x.align_modifier c.marked_kind-in-SliceDst.ensures
    ∙ ap (λ (i : SizeInfo ℕ). words_of (record { align = x.align; info = info_of i; mark = x.statically_shallow_unpadded; modifier = x.align_modifier })) (sym c.in-SliceDst.is)
