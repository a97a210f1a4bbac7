-- The page up to the number of teams, with how it looks.
use Rattle.std.specs.Prelude.{ℕ, List, [], ◌∷◌, Bool, codes, if◌then◌else◌}
use Rattle.std.specs.List.{concat}
use Rattle.league.specs.League.{LeagueData}
use Rattle.league.specs.Starts.{is_given}
use Rattle.report_page.specs.Labels.{has_title, title_of}
use Rattle.report_page.specs.Pieces.{escaped}

abbrev pub word_if : Bool → List ℕ → List ℕ
word_if wanted word = if wanted then word else []

-- with the league's name, if it has one, and how moved games look, if boards begin at a given schedule. A cell's widest text, as `@20`,
-- takes up to 2.3em, with its padding and border 2.7em, and the column of names 12.5em. So 38 rounds take 115.1em: at .66rem they fit
-- 76rem, which are 1216 of 1280 pixels
abbrev pub style_text : LeagueData → List ℕ
style_text l = concat (
    codes "<!DOCTYPE html>\n" ∷
    codes "<html lang='en'><head><meta charset='utf-8'><title>" ∷
    escaped (title_of l) ∷
    word_if (has_title l) (codes ": ") ∷
    codes "Schedule</title>\n" ∷
    codes "<meta name='viewport' content='width=device-width, initial-scale=1'><style>\n" ∷
    codes ":root { color-scheme: light dark; --back: #fff; --text: #1c1d21; --pale: #5d6168; --line: #d3d6db }\n" ∷
    codes ":root { --home: #dbe9fa; --bad: #b3261e; --bar: #3f7fbf }\n" ∷
    codes "@media (prefers-color-scheme: dark) { :root { --back: #17191d; --text: #e5e6e9; --pale: #a3a7ae }\n" ∷
    codes ":root { --line: #3c4048; --home: #20405f; --bad: #ff8a80; --bar: #6aa9e9 } }\n" ∷
    codes "body { margin: 0 auto; padding: 1rem; max-width: 100rem; font: 1rem/1.4 sans-serif }\n" ∷
    codes "body { background: var(--back); color: var(--text) } p { margin: 0 0 .5rem; color: var(--pale) }\n" ∷
    codes "h1 { font-size: 1.4rem } h2 { font-size: 1.15rem; margin: 1.5rem 0 .3rem }\n" ∷
    codes "ul { display: flex; flex-wrap: wrap; gap: .5rem; margin: 0; padding: 0; list-style: none }\n" ∷
    codes "li { border: 1px solid var(--line); border-radius: .4rem; padding: .3rem .7rem }\n" ∷
    codes "table { border-collapse: collapse; font-variant-numeric: tabular-nums }\n" ∷
    codes "th, td { border: 1px solid var(--line); padding: .15rem .45rem; text-align: right }\n" ∷
    codes "th:first-child { text-align: left } .wide { overflow-x: auto } p span { padding: .1rem .4rem }\n" ∷
    codes ".wide th:first-child { position: sticky; left: 0; z-index: 1; background: var(--back) }\n" ∷
    codes ".wide th:first-child { max-width: min(12em, 30vw); overflow: hidden; white-space: nowrap }\n" ∷
    codes ".wide th:first-child { text-overflow: ellipsis }\n" ∷
    codes ".grid { font-size: clamp(.65rem, 76rem / (var(--rounds) * 2.7 + 12.5), 1rem) }\n" ∷
    codes ".grid th, .grid td { padding: .15em clamp(.15em, (62em / var(--rounds) - 2.4em) / 2, .45em) }\n" ∷
    codes ".travel th { min-width: min(12rem, 30vw); overflow-wrap: anywhere }\n" ∷
    codes ".h { background: var(--home) } .o { box-shadow: inset 0 0 0 .12em var(--bad) }\n" ∷
    codes ".r { outline: .12em dashed var(--bad); outline-offset: -.25em }\n" ∷
    codes ".b { border-bottom: .15em solid var(--bad) }\n" ∷
    codes ".rules { display: block; overflow-x: auto } .rules td { white-space: nowrap }\n" ∷
    codes ".rules tr > :last-child { min-width: min(20rem, 60vw); text-align: left; white-space: normal }\n" ∷
    codes ".rules td:last-child { font-weight: normal }\n" ∷
    codes ".rounds { columns: 14rem } section { break-inside: avoid; padding-top: .5rem } h3 { font-size: 1rem; margin: 0 0 .1rem }\n" ∷
    codes ".bad { color: var(--bad); font-weight: bold } .travel { width: 100% } .bar { width: 100%; padding: 0 }\n" ∷
    codes ".bar { background: linear-gradient(var(--line), var(--line)) 50% / 1px 100% no-repeat }\n" ∷
    codes ".bar div { width: calc(100% * var(--tour) * var(--teams) / (2 * var(--travel))) }\n" ∷
    codes ".bar div { height: .8em; max-width: 100%; background: var(--bar) }\n" ∷
    codes "@media print { @page { size: landscape; margin: 10mm } * { print-color-adjust: exact }\n" ∷
    codes ".wide, .rules { overflow: visible } body { padding: 0; font-size: 10pt } tr { break-inside: avoid }\n" ∷
    codes ".grid { font-size: min(10pt, 270mm / (var(--rounds) * 2.4 + 12)) }\n" ∷
    codes ".grid th, .grid td { padding: .05em .1em; min-width: 2em } }\n" ∷
    word_if (is_given l.origin.start) (codes ".m { font-weight: bold; text-decoration: underline }\n") ∷
    codes "</style></head><body style='--teams:" ∷
    [])
