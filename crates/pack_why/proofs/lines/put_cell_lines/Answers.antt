-- `pack_why::lines::put_cell_lines` meets its contract
use Rattle.std.proofs.Common.{◌≡◌, ◌∙◌, refl, arith}
use Rattle.pack_why.specs.Lines.{putting-start, putting-place, putting-on, putting-end}
use Rattle.pack_why.proofs.lines.put_cell_lines.Goals as goal

pub loop-i-init : goal.loop-i-init
loop-i-init c = record { putting = putting-start _ _ _ (omega (arith, c.requires)); same = refl }

pub put_cell_line-requires : goal.put_cell_line-requires
put_cell_line-requires c = let few = c.cells_of-i-end.ensures.1 in
    let place = putting-place c.loop-i.invariant.putting c.requires (omega (arith, few)) in
    omega (arith, place.0, place.1, few, c.requires)

pub loop-i-preserved : goal.loop-i-preserved
loop-i-preserved c = let i = c.loop-i.invariant in
    let line = c.put_cell_line.ensures in record {
      putting = putting-on i.putting c.requires (omega (arith, c.cells_of-i-end.ensures.1)) _ _ line.put.put line.cell_len_bound;
      same = line.put.same ∙ i.same;
    }

pub returns : goal.returns
returns c = let i = c.loop-i.invariant in
    let cells = c.cells_of-i-end in
    let all : c.loop-i.i ≡ cells.result = omega arith in
    let both = putting-end _ i.putting (omega (arith, cells.ensures.0)) (omega (arith, cells.ensures.1)) in
    record { put = record { same = i.same; put = both.0 }; n_len_bound = both.1 }
