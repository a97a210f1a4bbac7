-- The line that tells on a terminal how far the workers of a search, or of one run after another, are.
use Rattle.std.specs.Prelude.{ℕ, ◌+◌, ◌-◌, ◌*◌, ◌/◌, ◌^◌, ◌||◌, min, max, nat_le, nat_lt, ◌==◌, if◌then◌else◌, Bool}
use Rattle.std.specs.Prelude.{false, Option, Some, None}
use Rattle.std.specs.Time.{instant_nanos}
use Rattle.std.specs.declared.time.Instant.{Instant}
use Rattle.draws.specs.declared.gates.Progress.{Progress}
use Rattle.commands.specs.declared.progress.Extent.{Extent}
use Rattle.commands.specs.declared.progress.Extent.TheVariants.{Steps, Seconds}
use Rattle.commands.specs.declared.progress.Reached.{Reached}
use Rattle.board_texts.specs.declared.progress_text.Advance.{Advance}

-- the lesser of two totals, each of which may be unknown
abbrev pub lesser : Option ℕ → Option ℕ → Option ℕ
lesser None reported = reported
lesser (Some known) None = Some known
lesser (Some known) (Some reported) = Some (min known reported)

-- how far all workers are when one more has reported. Steps stop at the greatest `u64`
abbrev pub reached_with : Reached → Progress → Reached
reached_with r p = record {
  steps = min (r.steps + p.steps) (2 ^ 64 - 1);
  least = lesser r.least p.least;
}

-- the milliseconds from one time to another
abbrev pub millis : Instant → Instant → ℕ
millis before now = (instant_nanos now - instant_nanos before) / 1_000_000

-- the seconds that the other steps take, if each takes as long as those so far did. They and the milliseconds stop at the greatest `u64`
abbrev pub seconds_left : ℕ → ℕ → Option Instant → Option Instant → Option ℕ
seconds_left steps all None now = None
seconds_left steps all (Some since) None = None
seconds_left steps all (Some since) (Some now) =
    if steps == 0 then None
    else Some (min ((all - steps) * min (millis since now) (2 ^ 64 - 1) / (steps * 1000)) (2 ^ 64 - 1))

-- how many of these seconds are left
abbrev pub seconds_of : ℕ → Option Instant → Option Instant → Option ℕ
seconds_of seconds None now = None
seconds_of seconds (Some since) None = None
seconds_of seconds (Some since) (Some now) = Some (seconds - millis since now / 1000)

-- how many steps these seconds make, if they go on as they did. They stop at the greatest `u64`
abbrev pub steps_within : ℕ → ℕ → Option Instant → Option Instant → ℕ
steps_within steps seconds None now = steps
steps_within steps seconds (Some since) None = steps
steps_within steps seconds (Some since) (Some now) =
    max steps (min (steps * (seconds * 1000) / max (millis since now) 1) (2 ^ 64 - 1))

-- what a line shows
abbrev pub advance_of : Reached → Extent → Option Instant → Option Instant → Advance
advance_of r (Steps all) since now =
    record { steps = r.steps; all = all; least = r.least; left = seconds_left r.steps all since now }
advance_of r (Seconds s) since now =
    record { steps = r.steps; all = steps_within r.steps s since now; least = r.least; left = seconds_of s since now }

-- a line is to come again, or a quarter of a second has passed since it was written, taken away or first asked for
abbrev pub is_due : Bool → Option Instant → Instant → Bool
is_due again None now = false
is_due again (Some last) now = again || nat_le 250 (millis last now)

-- when a line was last written, taken away or first asked for, after one more time
abbrev pub last_after : Bool → Option Instant → Instant → Option Instant
last_after again None now = Some now
last_after again (Some last) now = if is_due again (Some last) now then Some now else Some last

-- the time that was noted, or this one if there was none
abbrev pub first : Option Instant → Instant → Option Instant
first None now = Some now
first (Some noted) now = Some noted

-- after how many steps a worker reports, if it reported after so many before. Less than 8 milliseconds since the last report double
-- it, up to 4096; more than 64 halve it
abbrev pub pause_after : ℕ → Option Instant → Instant → ℕ
pause_after pause None now = pause
pause_after pause (Some reported) now =
    if nat_lt (millis reported now) 8 then min pause 2048 * 2
    else if nat_lt 64 (millis reported now) then max (pause / 2) 1
    else pause
