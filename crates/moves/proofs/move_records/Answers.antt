-- `moves::move_records` meets its contract. Assumes nothing.
use Rattle.std.proofs.Common.{◌≡◌, ℕ, ◌/◌, ◌%◌, length, ap, subst, ◌∙◌, arith}
use Rattle.short_defs.specs.Moves.{count_of}
use Rattle.short_defs.proofs.Ways.{move_told, is_uneven, is_short, fits_room}
use Rattle.moves.proofs.move_records.Goals as goal

pub moved-requires : goal.moved-requires
moved-requires g c =
    let s = c.args.records.now in
    let t : length c.args.out.now / c.TO.result ≡ length c.args.out.now / g.W.RecordMove.way.to = ap (λ (n : ℕ). length c.args.out.now / n) (c.TO.ensures ∙ g.met.W.RecordMove.to_is) in
    let f : length s / c.FROM-then-records-FROM-eq0.result ≡ count_of g.W.RecordMove.way s = ap (λ (n : ℕ). length s / n) (c.FROM-then-records-FROM-eq0.ensures ∙ g.met.W.RecordMove.from_is) in
    fits_room g.W.RecordMove.way s c.args.out.now g.met.W.RecordMove.to_positive (subst (λ (n : ℕ). length s % n ≡ 0) (c.FROM.ensures ∙ g.met.W.RecordMove.from_is) c.if-records-FROM-eq0.true) (omega (arith, t, f, c.if-out-TO.false))

pub returns-then-out-TO : goal.returns-then-out-TO
returns-then-out-TO g c =
    let s = c.args.records.now in
    let t : length c.args.out.now / c.TO.result ≡ length c.args.out.now / g.W.RecordMove.way.to = ap (λ (n : ℕ). length c.args.out.now / n) (c.TO.ensures ∙ g.met.W.RecordMove.to_is) in
    let f : length s / c.FROM-then-records-FROM-eq0.result ≡ count_of g.W.RecordMove.way s = ap (λ (n : ℕ). length s / n) (c.FROM-then-records-FROM-eq0.ensures ∙ g.met.W.RecordMove.from_is) in
    let m = is_short g.W.RecordMove.way s c.args.out.now g.met.W.RecordMove.to_positive (subst (λ (n : ℕ). length s % n ≡ 0) (c.FROM.ensures ∙ g.met.W.RecordMove.from_is) c.if-records-FROM-eq0.true) (omega (arith, t, f, c.if-out-TO.true)) in
    let told_here = move_told g.W.RecordMove.way g.W.RecordMove.forms g.met.W.RecordMove.proper s c.args.out.now (λ i. (c.shared_slice_known-1.given i).fits) m.0 m.1 in record { answer = told_here.0; bytes = told_here.1.0; meaning = told_here.1.1 }

pub returns-else-out-TO : goal.returns-else-out-TO
returns-else-out-TO g c = let s = c.args.records.now in let told_here = move_told g.W.RecordMove.way g.W.RecordMove.forms g.met.W.RecordMove.proper s c.args.out.now (λ i. (c.shared_slice_known-1.given i).fits) c.moved.ensures.result_value c.moved.ensures.out_after in record { answer = told_here.0; bytes = told_here.1.0; meaning = told_here.1.1 }

pub returns-else-records-FROM-eq0 : goal.returns-else-records-FROM-eq0
returns-else-records-FROM-eq0 g c =
    let s = c.args.records.now in
    let m = is_uneven g.W.RecordMove.way s c.args.out.now (subst (λ (n : ℕ). length s % n ≡ 0 → ⊥) (c.FROM.ensures ∙ g.met.W.RecordMove.from_is) c.if-records-FROM-eq0.false) in
    let told_here = move_told g.W.RecordMove.way g.W.RecordMove.forms g.met.W.RecordMove.proper s c.args.out.now (λ i. (c.shared_slice_known-1.given i).fits) m.0 m.1 in record { answer = told_here.0; bytes = told_here.1.0; meaning = told_here.1.1 }
