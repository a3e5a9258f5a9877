-- A quoted text as its bytes: every character of it is one byte (ASCII).
use Rattle.std.specs.Prelude.{ℕ, List, [], ◌∷◌}
use Prim.Native.Char.{code}
use Prim.Native.String.{String, [] as nothing, ◌∷◌ as ◌then◌}

abbrev pub quoted : String → List ℕ
quoted nothing = []
quoted (c then s) = code c ∷ quoted s
