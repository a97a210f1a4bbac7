use Rattle.league_forms.proofs.form.write_float.Goals as goal

-- the numeral is what `ryu` gives
pub returns : goal.returns
returns g c plain ok = (c.format.result.now, (c.format.ensures.parses, c.format.ensures.plain), c.write_str.ensures.writes plain ok)
