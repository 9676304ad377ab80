-- `exports_working::add_words` meets its contract. Assumes nothing.
use Rattle.util.proofs.Told.{handed_on}
use Rattle.util_defs.proofs.Tables.{told_by}
use Rattle.layout.specs.View.{layout_says}
use Rattle.record_defs.specs.Record.{words_for}
use Rattle.exports_layouts.specs.Layouts.{words_given}
use Rattle.exports_working.proofs.Given.{member_off}
use Rattle.exports_working.proofs.add_words.Goals as goal

pub returns-in_err-member : goal.returns-in_err-member
returns-in_err-member c =
    let m = words_for 64 (words_given c.args.field) in
    handed_on _ c.from_residual-in_err-member.result _ c.from_residual-in_err-member.ensures.1
    (member_off 64 c.args.repr_packed (words_given c.args.lent) m (told_by layout_says c.try_from.ensures c.in_ok-own.was) (told_by layout_says c.try_from-2.ensures c.in_err-member.was))
