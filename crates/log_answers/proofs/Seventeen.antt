-- "A malformed line is no sample and no command: it gives 17, whatever other row seems to fit." So a line is refused with 17 exactly if it
-- is malformed: no sample and no command ever is.
-- Assumes nothing.
use Rattle.std.specs.Prelude.{◌≡◌, refl, false, ◌&&◌, List, ℕ, leb}
use Rattle.laws.specs.Tests.{by-test}
use Rattle.sample.specs.declared.Sample.{Sample}
use Rattle.units.specs.Cells.{ten_at_most}
use Rattle.pack_refusals.specs.Samples.{cells_fit, temperature_fits, exact_count, sample_refusals, sample_verdict, command_refusals, command_verdict}
use Rattle.pack_state.specs.declared.Pack.{Pack}
use Rattle.pack.specs.Answers.{offered, commanded}
use Rattle.log_entries.specs.declared.Entry.{Entry}
use Rattle.log_entries.specs.declared.Entry.TheVariants.{Offer, Command, Malformed}
use Rattle.log_entries.specs.Entry.{kind_of, read_entry}
use Rattle.log_answers.specs.Tell.{told_of, answered_as, outcome_of, tell}
use Rattle.log_answers.specs.Seventeen.{is_seventeen, is_malformed}

sample-never : (n : ℕ) (s : Sample) (p : Pack) → is_seventeen (told_of (sample_verdict n s) p) ≡ false
unfolding sample_verdict sample_refusals
sample-never n s p =
    by-test (exact_count n s.count)
    (λ a. rw a
    (by-test (cells_fit s.cells (ten_at_most s.count))
    (λ b. rw b (by-test (temperature_fits s.t1.0 && temperature_fits s.t2.0) (λ d. rw d) (λ d. rw d)))
    (λ b. rw b)))
    (λ a. rw a)

command-never : (c : ℕ) (p : Pack) → is_seventeen (told_of (command_verdict c) p) ≡ false
unfolding command_verdict command_refusals
command-never c p = by-test (leb c 3) (λ a. rw a) (λ a. rw a)

by-entry : (p : Pack) (e : Entry) → is_seventeen (outcome_of (kind_of e) (answered_as p e)).told ≡ is_malformed (kind_of e)
unfolding outcome_of offered commanded
by-entry p (Offer s) = sample-never p.rules.n s _
by-entry p (Command c) = command-never c _
by-entry p Malformed = refl

-- For every pack and every sequence of bytes.
pub seventeen-exactly : (p : Pack) (line : List ℕ) → is_seventeen (tell p line).told ≡ is_malformed (kind_of (read_entry line))
unfolding tell
seventeen-exactly p line = by-entry p (read_entry line)
