-- `pack_why::lines::put_cell_reason` meets its contract. Assumes nothing.
use lib.Dec.{lit≤}
use native.Mathlib.Nat.{le_trans}
use Rattle.text_fields.specs.Fields.{line_of}
use Rattle.text_fields.specs.Decimal.{decimal}
use Rattle.pack_why.specs.Lines.{cell_text}
use Rattle.pack_why.proofs.lines.put_cell_reason.Goals as goal

pub returns-in-NoSuchCell : goal.returns-in-NoSuchCell
unfolding cell_text line_of decimal
returns-in-NoSuchCell c = record { put = rw c.in-NoSuchCell.is c.put_bytes.ensures.put; why_len_bound = rw c.in-NoSuchCell.is (lit≤ tt) }

pub returns-in-NoSample : goal.returns-in-NoSample
unfolding cell_text line_of
returns-in-NoSample c = record { put = rw c.in-NoSample.is c.put_bytes-in-NoSample.ensures.put; why_len_bound = rw c.in-NoSample.is (lit≤ tt) }

pub returns-in-NotCharging : goal.returns-in-NotCharging
unfolding cell_text line_of
returns-in-NotCharging c = record { put = rw c.in-NotCharging.is c.put_bytes-in-NotCharging.ensures.put; why_len_bound = rw c.in-NotCharging.is (lit≤ tt) }

pub returns-in-Raised : goal.returns-in-Raised
unfolding cell_text line_of
returns-in-Raised c = record { put = rw c.in-Raised.is c.put_numbered.ensures.put; why_len_bound = rw c.in-Raised.is (le_trans c.put_numbered.ensures.number_in_bounds (lit≤ tt)) }

pub returns-in-BelowFloor : goal.returns-in-BelowFloor
unfolding cell_text line_of
returns-in-BelowFloor c = record { put = rw c.in-BelowFloor.is c.put_bytes-in-BelowFloor.ensures.put; why_len_bound = rw c.in-BelowFloor.is (lit≤ tt) }

pub returns-in-NotAboveDifference : goal.returns-in-NotAboveDifference
unfolding cell_text line_of
returns-in-NotAboveDifference c = record { put = rw c.in-NotAboveDifference.is c.put_bytes-in-NotAboveDifference.ensures.put; why_len_bound = rw c.in-NotAboveDifference.is (lit≤ tt) }

pub returns-in-Resting : goal.returns-in-Resting
unfolding cell_text line_of
returns-in-Resting c = record { put = rw c.in-Resting.is c.put_bytes-in-Resting.ensures.put; why_len_bound = rw c.in-Resting.is (lit≤ tt) }

pub returns-in-MostTaken : goal.returns-in-MostTaken
unfolding cell_text line_of
returns-in-MostTaken c = record { put = rw c.in-MostTaken.is c.put_bytes-in-MostTaken.ensures.put; why_len_bound = rw c.in-MostTaken.is (lit≤ tt) }

pub returns-in-Neighbour : goal.returns-in-Neighbour
unfolding cell_text line_of
returns-in-Neighbour c = record { put = rw c.in-Neighbour.is c.put_numbered-in-Neighbour.ensures.put; why_len_bound = rw c.in-Neighbour.is (le_trans c.put_numbered-in-Neighbour.ensures.number_in_bounds (lit≤ tt)) }

pub returns-in-Bled : goal.returns-in-Bled
unfolding cell_text line_of
returns-in-Bled c = record { put = rw c.in-Bled.is c.put_bytes-in-Bled.ensures.put; why_len_bound = rw c.in-Bled.is (lit≤ tt) }
