-- `pack_why::lines::put_switch_reason` meets its contract. Assumes nothing.
use lib.Dec.{lit≤}
use native.Mathlib.Nat.{le_trans}
use Rattle.text_fields.specs.Fields.{line_of}
use Rattle.pack_why.specs.Lines.{switch_text}
use Rattle.pack_why.proofs.lines.put_switch_reason.Goals as goal

pub returns-in-NoSample : goal.returns-in-NoSample
unfolding switch_text line_of
returns-in-NoSample c = record { put = rw c.in-NoSample.is c.put_bytes.ensures.put; why_len_bound = rw c.in-NoSample.is (lit≤ tt) }

pub returns-in-NotCommanded : goal.returns-in-NotCommanded
unfolding switch_text line_of
returns-in-NotCommanded c = record { put = rw c.in-NotCommanded.is c.put_bytes-in-NotCommanded.ensures.put; why_len_bound = rw c.in-NotCommanded.is (lit≤ tt) }

pub returns-in-Blocked : goal.returns-in-Blocked
unfolding switch_text line_of
returns-in-Blocked c = record { put = rw c.in-Blocked.is c.put_numbered.ensures.put; why_len_bound = rw c.in-Blocked.is (le_trans c.put_numbered.ensures.number_in_bounds (lit≤ tt)) }

pub returns-in-On : goal.returns-in-On
unfolding switch_text line_of
returns-in-On c = record { put = rw c.in-On.is c.put_bytes-in-On.ensures.put; why_len_bound = rw c.in-On.is (lit≤ tt) }
