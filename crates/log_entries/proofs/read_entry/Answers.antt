-- `log_entries::read_entry` meets its contract. Assumes nothing.
use mathlib.Core.Path.{◌≡◌, sym, ◌∙◌}
use native.Mathlib.Omega.{arith}
use lib.Dec.{eqb}
use lib.ListN.{get_or}
use borrow.Author.Tests.{ne_eqb, eqb-true, eqb-false, ltb-false}
use Rattle.laws.specs.Tests.{by-test}
use Rattle.log_entries.proofs.Reading.{overlong, line-short, line-other, line-letter}
use Rattle.log_entries.proofs.read_entry.Goals as goal

pub returns-then-line-gt128 : goal.returns-then-line-gt128
returns-then-line-gt128 c = sym (overlong _ c.if-line-gt128.true)

pub returns-in-83 : goal.returns-in-83
returns-in-83 c = let x = c.args.line.now in
    let e : get_or x 0 0 ≡ 83 = omega arith in
    c.read_sample.ensures ∙ sym (line-letter x (omega arith) (omega arith) ∙ rw e)

pub returns-in-70 : goal.returns-in-70
returns-in-70 c = let x = c.args.line.now in
    let e : get_or x 0 0 ≡ 70 = omega arith in
    c.read_command.ensures ∙ sym (line-letter x (omega arith) (omega arith) ∙ rw e)

pub returns-in_default : goal.returns-in_default
returns-in_default c = sym (line-short c.args.line.now c.in_default.len_below)

pub returns-in_default-2 : goal.returns-in_default-2
returns-in_default-2 c = let x = c.args.line.now in sym (line-other x (omega (arith, ltb-false)) (λ e. omega arith))

pub returns-in_default-3 : goal.returns-in_default-3
returns-in_default-3 c = let x = c.args.line.now in sym (line-other x (omega (arith, ltb-false)) (λ e. omega arith))

pub returns-in_default-4 : goal.returns-in_default-4
returns-in_default-4 c = let x = c.args.line.now in
    sym (by-test (eqb (get_or x 1 0) 9)
    (λ t. line-letter x (omega (arith, ltb-false)) (eqb-true (get_or x 1 0) 9 t)
    ∙ rw (ne_eqb (get_or x 0 0) 70 (λ e. omega arith), ne_eqb (get_or x 0 0) 83 (λ e. omega arith)))
    (λ t. line-other x (omega (arith, ltb-false)) (eqb-false (get_or x 1 0) 9 t)))
