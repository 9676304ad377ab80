-- `moves::moved` meets its contract. Assumes nothing.
use Rattle.std.proofs.Common.{◌≡◌, ℕ, ◌*◌, ◌/◌, length, sym, ap, ap₂, ◌∙◌, arith}
use Rattle.util.proofs.Told.{handed_on_at}
use Rattle.util_defs.specs.Placed.{reached}
use Rattle.short_defs.specs.Moves.{count_of}
use Rattle.short_defs.proofs.Lists.{moved_length}
use Rattle.short_defs.proofs.Meaning.{sized}
use Rattle.short_defs.proofs.Ways.{is_stopped, is_moved}
use Rattle.moves.specs.View.{test_says}
use Rattle.moves.proofs.moved.Goals as goal

pub write_records-requires : goal.write_records-requires
write_records-requires g c = let s = c.args.records.now in (sym c.test_records.ensures ∙ ap test_says c.in_ok-test_records.was, (sized g.W.RecordMove.way s (length c.args.out.now) c.requires).room)

pub overflow_mul-result : goal.overflow_mul-result
overflow_mul-result g c =
    let s = c.args.records.now in
    let k : length s / c.FROM.result * c.TO.result ≡ count_of g.W.RecordMove.way s * g.W.RecordMove.way.to = ap₂ (λ (n m : ℕ). length s / n * m) (c.FROM.ensures ∙ g.met.W.RecordMove.from_is) (c.TO.ensures ∙ g.met.W.RecordMove.to_is) in
    omega (arith, k, (sized g.W.RecordMove.way s (length c.args.out.now) c.requires).room)

pub returns-clause-result_value : goal.returns-clause-result_value
returns-clause-result_value g c =
    let s = c.args.records.now in
    let k : length s / c.FROM.result * c.TO.result ≡ count_of g.W.RecordMove.way s * g.W.RecordMove.way.to = ap₂ (λ (n m : ℕ). length s / n * m) (c.FROM.ensures ∙ g.met.W.RecordMove.from_is) (c.TO.ensures ∙ g.met.W.RecordMove.to_is) in
    let m = is_moved g.W.RecordMove.way s c.args.out.now c.requires (sym c.test_records.ensures ∙ ap test_says c.in_ok-test_records.was) in
    ap reached (k ∙ sym (moved_length g.W.RecordMove.way g.met.W.RecordMove.proper.whole (count_of g.W.RecordMove.way s) s)) ∙ m.0

pub returns-clause-out_after : goal.returns-clause-out_after
returns-clause-out_after g c = c.write_records.ensures ∙ (is_moved g.W.RecordMove.way c.args.records.now c.args.out.now c.requires (sym c.test_records.ensures ∙ ap test_says c.in_ok-test_records.was)).1

pub returns-in_err-test_records : goal.returns-in_err-test_records
returns-in_err-test_records g c = let told_here = is_stopped g.W.RecordMove.way c.args.records.now c.args.out.now c.requires (sym c.test_records.ensures ∙ ap test_says c.in_err-test_records.was) in record { result_value = handed_on_at _ c.from_residual.result _ c.from_residual.ensures.1 told_here.0; out_after = told_here.1 }
