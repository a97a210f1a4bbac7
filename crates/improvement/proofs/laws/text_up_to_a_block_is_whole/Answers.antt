use Rattle.improvement.proofs.Blocks.{text_up_to_a_block_is_whole}
use Rattle.improvement.proofs.laws.text_up_to_a_block_is_whole.Goals as goal

pub returns : goal.returns
returns c = text_up_to_a_block_is_whole
