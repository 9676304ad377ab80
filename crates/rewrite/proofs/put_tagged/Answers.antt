-- `rewrite::put_tagged` meets its contract. Assumes nothing.
use mathlib.Core.Path.{◌∙◌}
use Rattle.rewrite.proofs.Ways.{stores}
use Rattle.rewrite.proofs.put_tagged.Goals as goal

pub returns : goal.returns
returns c = c.copy.ensures ∙ stores c.args.out.now c.args.s.now c.args.to c.args.at c.args.tag c.requires.0
