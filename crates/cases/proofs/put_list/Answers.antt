-- `cases::put_list` meets its contract. Assumes nothing.
use mathlib.Core.Path.{ap, ◌∙◌}
use mathlib.Core.List.{List}
use Prim.Native.Nat.{ℕ, ◌+◌}
use Rattle.words.specs.Bytes.{put_into}
use Rattle.cases.proofs.Grown.{puts_list}
use Rattle.cases.proofs.put_list.Goals as goal

pub returns : goal.returns
returns c =
    let i = c.args.at in
    let v = c.args.word in
    c.put_word-5.ensures
    ∙ ap (λ (t : List ℕ). put_into t (i + 32) (v + 2048)) (c.put_word-4.ensures
    ∙ ap (λ (t : List ℕ). put_into t (i + 24) (v + 1024)) (c.put_word-3.ensures
    ∙ ap (λ (t : List ℕ). put_into t (i + 16) (v + 512)) (c.put_word-2.ensures
    ∙ ap (λ (t : List ℕ). put_into t (i + 8) (v + 256)) c.put_word.ensures)))
    ∙ puts_list c.args.out.now i v c.requires.0
