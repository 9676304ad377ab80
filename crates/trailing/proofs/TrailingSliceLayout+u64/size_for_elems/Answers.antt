-- `trailing::TrailingSliceLayout::size_for_elems` meets its contract. Assumes nothing.
use Rattle.std.proofs.Common.{◌≡◌, ℕ, ◌^◌, ◌<◌, sym, ap, ◌∙◌, subst, arith}
use Rattle.trailing_defs.specs.Size.{Trailing}
use Rattle.trailing_defs.specs.Sized.{SizeOutcome, refused_by, size_given, SizeMeans}
use Rattle.trailing.proofs.Told.{decoded_told, decoded_refused, size_handed_on}
use Rattle.trailing.specs.View.{trailing_of}
use Rattle.trailing_defs.proofs.Sized.{size_means, given_zero}
use Rattle.trailing.proofs.TrailingSliceLayout+u64.size_for_elems.Goals as goal

-- an outcome that is the one given means what that means
told : {o : SizeOutcome} (t : Trailing) (n : ℕ) → t.word < 2 ^ 64 → o ≡ size_given 64 t n → (o ≡ size_given 64 t n) × SizeMeans 64 t n o
told t n h e = (e, subst (SizeMeans 64 t n) (sym e) (size_means 64 t n h))

pub returns : goal.returns
returns c = let told_here = told (trailing_of c.args.self) c.args.elems (omega arith) (c.size_for_elems.ensures ∙ ap (λ l. size_given 64 (trailing_of l) c.args.elems) (decoded_told c.decoded.result c.decoded.ensures c.in_ok-decoded.was)) in record { answer = told_here.0; meaning = told_here.1 }

pub returns-in_err-decoded : goal.returns-in_err-decoded
returns-in_err-decoded c =
    let t = trailing_of c.args.self in
    let z = decoded_refused c.decoded.result c.decoded.ensures c.in_err-decoded.was in let told_here = told t c.args.elems (omega arith) (size_handed_on c.from_residual.result _ c.from_residual.ensures.1 (ap refused_by z.1 ∙ sym (given_zero 64 t c.args.elems z.0))) in record { answer = told_here.0; meaning = told_here.1 }
