-- How long a trace may be, from the largest numbers in it: the size of the buffer that is lent for it.
-- Assumes nothing.
use Rattle.std.specs.Prelude.{ℕ, suc, ◌+◌, ◌*◌, ◌-◌, max, length}
use Rattle.lines.specs.Text.{digits}
use Rattle.curve.specs.Codes.{point_count}
use Rattle.published.specs.Start.{step_count}
use Rattle.stepline.specs.StepLine.{step_size}

-- the first line has q, u, which is below the number of points, a space and a newline
unfoldable pub first_size : ℕ → ℕ
first_size q = length (digits q) + length (digits (point_count q)) + 2

-- the last line has "accept ", " :", a newline, the count, and the message's symbols with their spaces, where neither the count
-- nor the message's length is more than there are points; no refusal's line is longer
unfoldable pub last_size : ℕ → ℕ
last_size q = 10 + length (digits (point_count q)) + point_count q * suc (length (digits (q * q - 1)))

-- all lines of a row
unfoldable pub trace_size : ℕ → ℕ
trace_size q = first_size q + step_count q * step_size q + last_size q

-- the longest trace of the codes that there are
unfoldable pub longest_trace : ℕ
longest_trace = max (trace_size 2) (trace_size 4)
