-- `places` meets its contract: it compares with the powers of ten, one after the other.
use mathlib.Core.Path.{sym, ap}
use native.Mathlib.Omega.{arith}
use lib.ListN.{length}
use Rattle.text_fields.specs.Spelling.{decimal-digit, decimal-places}
use Rattle.text_writing.proofs.places.Goals as goal

pub returns-in-0-to-9-clause-value : goal.returns-in-0-to-9-clause-value
returns-in-0-to-9-clause-value c = sym (ap length (decimal-digit _ (omega arith)))

pub returns-in-10-to-99-clause-value : goal.returns-in-10-to-99-clause-value
returns-in-10-to-99-clause-value c = decimal-places 1 _ (omega arith) (omega arith)

pub returns-in-100-to-999-clause-value : goal.returns-in-100-to-999-clause-value
returns-in-100-to-999-clause-value c = decimal-places 2 _ (omega arith) (omega arith)

pub returns-in-1000-to-9999-clause-value : goal.returns-in-1000-to-9999-clause-value
returns-in-1000-to-9999-clause-value c = decimal-places 3 _ (omega arith) (omega arith)

pub returns-in-10000-to-99999-clause-value : goal.returns-in-10000-to-99999-clause-value
returns-in-10000-to-99999-clause-value c = decimal-places 4 _ (omega arith) (omega arith)

pub returns-in-100000-to-999999-clause-value : goal.returns-in-100000-to-999999-clause-value
returns-in-100000-to-999999-clause-value c = decimal-places 5 _ (omega arith) (omega arith)

pub returns-in-1000000-to-9999999-clause-value : goal.returns-in-1000000-to-9999999-clause-value
returns-in-1000000-to-9999999-clause-value c = decimal-places 6 _ (omega arith) (omega arith)

pub returns-in-10000000-to-99999999-clause-value : goal.returns-in-10000000-to-99999999-clause-value
returns-in-10000000-to-99999999-clause-value c = decimal-places 7 _ (omega arith) (omega arith)

pub returns-in-100000000-to-999999999-clause-value : goal.returns-in-100000000-to-999999999-clause-value
returns-in-100000000-to-999999999-clause-value c = decimal-places 8 _ (omega arith) (omega arith)

pub returns-in_default-clause-value : goal.returns-in_default-clause-value
returns-in_default-clause-value c = decimal-places 9 _ (omega arith) (omega arith)
