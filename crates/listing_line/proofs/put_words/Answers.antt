-- `listing_line::put_words` meets its contract. Assumes nothing.
use mathlib.Core.List.{◌++◌}
use Rattle.listing_line.specs.Line.{token, words_line}
use Rattle.listing_line.proofs.Lines.{joined, begun}
use borrow.Author.Rules.{rules}
use Rattle.listing_line.proofs.put_words.Goals as goal

pub returns-clause-value : goal.returns-clause-value
unfolding words_line
returns-clause-value c =
    let l = c.args.out.now in
    let t1 = token c.args.w.align 32 in
    let t2 = token c.args.w.kind 32 in
    let t3 = token c.args.w.size 32 in
    let t4 = token c.args.w.offset 32 in
    let t5 = token c.args.w.elem_size 32 in
    let t6 = token c.args.w.word 10 in
    let s1 = begun l c.put_token-p1.new.out t1 _ c.put_token-p1.ensures.value in
    let s2 = joined l _ c.put_token-p2.new.out (t1) t2 _ _ s1 c.put_token-p2.ensures.value in
    let s3 = joined l _ c.put_token-p3.new.out (t1 ++ t2) t3 _ _ s2 c.put_token-p3.ensures.value in
    let s4 = joined l _ c.put_token-p4.new.out (t1 ++ t2 ++ t3) t4 _ _ s3 c.put_token-p4.ensures.value in
    let s5 = joined l _ c.put_token-p5.new.out (t1 ++ t2 ++ t3 ++ t4) t5 _ _ s4 c.put_token-p5.ensures.value in joined l _ c.put_token.new.out (t1 ++ t2 ++ t3 ++ t4 ++ t5) t6 _ _ s5 c.put_token.ensures.value

pub returns-clause-upper_bound : goal.returns-clause-upper_bound
unfolding words_line
returns-clause-upper_bound c =
    let l = c.args.out.now in
    let t1 = token c.args.w.align 32 in
    let t2 = token c.args.w.kind 32 in
    let t3 = token c.args.w.size 32 in
    let t4 = token c.args.w.offset 32 in
    let t5 = token c.args.w.elem_size 32 in
    let t6 = token c.args.w.word 10 in
    let s1 = begun l c.put_token-p1.new.out t1 _ c.put_token-p1.ensures.value in
    let s2 = joined l _ c.put_token-p2.new.out (t1) t2 _ _ s1 c.put_token-p2.ensures.value in
    let s3 = joined l _ c.put_token-p3.new.out (t1 ++ t2) t3 _ _ s2 c.put_token-p3.ensures.value in
    let s4 = joined l _ c.put_token-p4.new.out (t1 ++ t2 ++ t3) t4 _ _ s3 c.put_token-p4.ensures.value in
    let s5 = joined l _ c.put_token-p5.new.out (t1 ++ t2 ++ t3 ++ t4) t5 _ _ s4 c.put_token-p5.ensures.value in search rules
