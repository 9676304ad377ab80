-- `casts32::validate_cast_and_convert_metadata` meets its contract. Assumes nothing.

use Rattle.casts32.proofs.validate_cast_and_convert_metadata.Goals as goal

pub returns-clause-answer : goal.returns-clause-answer
returns-clause-answer c = c.cast_bytes.ensures.answer

pub returns-clause-meaning : goal.returns-clause-meaning
returns-clause-meaning c = c.cast_bytes.ensures.meaning
