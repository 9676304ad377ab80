-- `listing_line::put_refusal` meets its contract. Assumes nothing.
use mathlib.Core.Path.{◌≡◌, refl}
use mathlib.Core.List.{◌++◌}
use Prim.Native.Nat.{◌+◌}
use lib.ListN.{length}
use lib.Seq.{sets}
use Rattle.listing_line.specs.Line.{token, refused_text, at_text, refused_line}
use Rattle.listing_line.proofs.Lines.{joined}
use borrow.Author.Rules.{rules}
use Rattle.listing_line.proofs.put_refusal.Goals as goal

pub returns-clause-value : goal.returns-clause-value
unfolding refused_line
returns-clause-value c =
    let l = c.args.out.now in
    let t2 = token c.args.number 32 in
    let t4 = token c.args.place 10 in
    let s1 : (8 ≡ length refused_text) × (c.put_refused_text.new.out ≡ sets l 0 refused_text) = (refl, c.put_refused_text.ensures) in
    let s2 = joined l _ c.put_token-at.new.out refused_text t2 8 _ s1 c.put_token-at.ensures.value in
    let s3 = joined l _ c.put_at_text.new.out (refused_text ++ t2) at_text _ (c.put_token-at.result + 3) s2 (refl, c.put_at_text.ensures) in joined l _ c.put_token.new.out (refused_text ++ t2 ++ at_text) t4 _ _ s3 c.put_token.ensures.value

pub returns-clause-upper_bound : goal.returns-clause-upper_bound
unfolding refused_line
returns-clause-upper_bound c =
    let l = c.args.out.now in
    let t2 = token c.args.number 32 in
    let t4 = token c.args.place 10 in
    let s1 : (8 ≡ length refused_text) × (c.put_refused_text.new.out ≡ sets l 0 refused_text) = (refl, c.put_refused_text.ensures) in
    let s2 = joined l _ c.put_token-at.new.out refused_text t2 8 _ s1 c.put_token-at.ensures.value in
    let s3 = joined l _ c.put_at_text.new.out (refused_text ++ t2) at_text _ (c.put_token-at.result + 3) s2 (refl, c.put_at_text.ensures) in search rules
