-- `heads::head` meets its contract. Assumes nothing.
use mathlib.Core.Path.{sym, ap, ◌∙◌}
use Prim.Native.Nat.{◌≤◌}
use native.Mathlib.Omega.{arith}
use Rattle.util.proofs.Told.{handed_on_at}
use Rattle.describe_defs.specs.Describe.{array, struct, slice, tag_of}
use Rattle.describe_defs.proofs.Heads.{head_told}
use Rattle.heads.specs.View.{counted, number_read}
use Rattle.heads.proofs.Ways.{head_cut, head_code, head_unknown, head_opens, head_deep}
use Rattle.heads.proofs.head.Goals as goal
use Rattle.heads.proofs.head.Goals.{then-tag-lt9, in-16-to-19+else-depth-eq0+in_default+then-tag-lt9-2}

pub returns-in_err-tag : goal.returns-in_err-tag
returns-in_err-tag c = let told_here = head_told c.args.bits c.args.s.now c.args.at c.args.depth (handed_on_at _ c.from_residual.result _ c.from_residual.ensures.1 (head_cut c.args.bits c.args.depth c.args.s.now c.args.at (sym c.byte_at.ensures ∙ ap number_read c.in_err-tag.was))) in record { answer = told_here.0; meaning = told_here.1 }

pub returns-in-16-to-19 : goal.returns-in-16-to-19
returns-in-16-to-19 c = let e = sym c.byte_at.ensures ∙ ap number_read c.in_ok-tag.was in let told_here = head_told c.args.bits c.args.s.now c.args.at c.args.depth (head_deep c.args.bits c.args.depth c.args.s.now c.args.at e (omega (arith, c.in-16-to-19)) (omega (arith, c.in-16-to-19)) c.if-depth-eq0.true) in record { answer = told_here.0; meaning = told_here.1 }

pub returns-in-16 : goal.returns-in-16
returns-in-16 c = let e = sym c.byte_at.ensures ∙ ap number_read c.in_ok-tag.was in let told_here = head_told c.args.bits c.args.s.now c.args.at c.args.depth (c.array_head.ensures ∙ head_opens c.args.bits c.args.depth c.args.s.now c.args.at array e (ap tag_of c.in-16.is) c.if-depth-eq0.false) in record { answer = told_here.0; meaning = told_here.1 }

pub returns-in-17 : goal.returns-in-17
returns-in-17 c = let e = sym c.byte_at.ensures ∙ ap number_read c.in_ok-tag.was in let told_here = head_told c.args.bits c.args.s.now c.args.at c.args.depth (c.struct_head.ensures ∙ head_opens c.args.bits c.args.depth c.args.s.now c.args.at (struct (counted c.counted_by.result)) e c.counted_by.ensures c.if-depth-eq0.false) in record { answer = told_here.0; meaning = told_here.1 }

pub returns-in-18 : goal.returns-in-18
returns-in-18 c = let e = sym c.byte_at.ensures ∙ ap number_read c.in_ok-tag.was in let told_here = head_told c.args.bits c.args.s.now c.args.at c.args.depth (head_opens c.args.bits c.args.depth c.args.s.now c.args.at slice e (ap tag_of c.in-18.is) c.if-depth-eq0.false) in record { answer = told_here.0; meaning = told_here.1 }

pub returns-in_default : goal.returns-in_default
returns-in_default c = let e = sym c.byte_at.ensures ∙ ap number_read c.in_ok-tag.was in let told_here = head_told c.args.bits c.args.s.now c.args.at c.args.depth (head_unknown c.args.bits c.args.depth c.args.s.now c.args.at e (omega (arith, c.in_default)) (λ q. omega (arith, q, c.in_default)) (λ q. omega (arith, q, c.in_default)) (λ q. omega (arith, q, c.in_default)) (λ q. omega (arith, q, c.in_default))) in record { answer = told_here.0; meaning = told_here.1 }

pub returns-in_default-3 : goal.returns-in_default-3
returns-in_default-3 c = let e = sym c.byte_at.ensures ∙ ap number_read c.in_ok-tag.was in let told_here = head_told c.args.bits c.args.s.now c.args.at c.args.depth (head_unknown c.args.bits c.args.depth c.args.s.now c.args.at e (omega (arith, c.in_default)) (λ q. omega (arith, q, c.in_default)) (λ q. omega (arith, q, c.in_default)) (λ q. omega (arith, q, c.in_default)) (λ q. omega (arith, q, c.in_default))) in record { answer = told_here.0; meaning = told_here.1 }

pub returns-in-0-to-8 : goal.returns-in-0-to-8
returns-in-0-to-8 c =
    let e = sym c.byte_at.ensures ∙ ap number_read c.in_ok-tag.was in
    let l : c.in_ok-tag.tag ≤ 8 = elim c.in-0-to-8-1.branch [
      | then-tag-lt9 w ↦ omega (arith, w)
      | in-16-to-19+else-depth-eq0+in_default+then-tag-lt9-2 w ↦ omega (arith, w)
    ] in
    let told_here = head_told c.args.bits c.args.s.now c.args.at c.args.depth (head_code c.args.bits c.args.depth c.args.s.now c.args.at e l) in record { answer = told_here.0; meaning = told_here.1 }
