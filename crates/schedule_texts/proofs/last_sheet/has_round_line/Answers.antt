use Rattle.schedule_texts.proofs.Sheets.{sheet_round}
use Rattle.schedule_texts.proofs.last_sheet.has_round_line.Goals as goal

pub loop-line-init : goal.loop-line-init
loop-line-init c = sheet_round _ _ c.of.ensures
