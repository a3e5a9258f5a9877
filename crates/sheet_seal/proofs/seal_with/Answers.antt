-- `sheet_seal::seal_with` meets its contract. Assumes nothing.
use native.Mathlib.Omega.{arith}
use mathlib.Core.Path.{refl}
use Rattle.std.proofs.lemmas.Result.{err_from_is_err_and}
use Rattle.sheet_seal.specs.Sealed.{page-some, seal-refused, seal-written}
use Rattle.sheet_seal.proofs.seal_with.Goals as goal

pub returns-in_err-read_words : goal.returns-in_err-read_words
returns-in_err-read_words c = let p = err_from_is_err_and c.from_residual.result c.from_residual.ensures.1 in
    let both = seal-refused _ _ _ _ c.requires c.in_err-read_words.ensures.value _ refl in rw (p.1, p.2) (record { value = both.0; out_after = both.1 })

pub seal_page-requires : goal.seal_page-requires
seal_page-requires c = omega (arith, page-some c.args.text.now, c.requires)

pub returns : goal.returns
returns c = let both = seal-written _ _ _ _ c.requires c.in_ok-read_words.ensures.value refl _ _ _ _ _ refl c.in_ok-read_words.ensures.page_after c.seal_page.ensures c.write_unjudged.ensures.value c.write_unjudged.ensures.out_after in record { value = both.0; out_after = both.1 }
