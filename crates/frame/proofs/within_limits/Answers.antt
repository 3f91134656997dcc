-- `within_limits` meets its contract: each test gives its refusal, and what passes them is inside the limits.
use mathlib.Core.Path.{sym}
use native.Mathlib.Omega.{arith}
use Rattle.frame.proofs.Limits.{long_message, long_label, high_serial}
use Rattle.frame.proofs.within_limits.Goals as goal

pub returns-then-n-gt-MESSAGE_MAX : goal.returns-then-n-gt-MESSAGE_MAX
returns-then-n-gt-MESSAGE_MAX c out x = sym (long_message _ _ _ out x (omega arith))

pub returns-then-label-gt-LABEL_MAX : goal.returns-then-label-gt-LABEL_MAX
returns-then-label-gt-LABEL_MAX c out x = sym (long_label _ _ _ out x (omega arith) (omega arith))

pub returns-then-serial-gt-SERIAL_MAX : goal.returns-then-serial-gt-SERIAL_MAX
returns-then-serial-gt-SERIAL_MAX c out x = sym (high_serial _ _ _ out x (omega arith) (omega arith) (omega arith))

pub returns : goal.returns
returns c = record { message = omega arith; label = omega arith; serial = omega arith }
