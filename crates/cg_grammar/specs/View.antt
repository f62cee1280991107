-- What arguments mean.
use Rattle.std.specs.Prelude.{option_map}
use Rattle.cg_grammar.specs.Arguments as spec
use Rattle.cg_grammar.specs.declared.arguments.Given.{Given}
use Rattle.cg_grammar.specs.declared.arguments.Given.TheVariants.{Nothing, One, Two, Value, Values}

-- arguments, as the grammar has them
abbrev pub given_of : Given → spec.Given
given_of Nothing = spec.nothing
given_of (One name) = spec.one name.now
given_of (Two name file) = spec.two name.now file.now
given_of (Value name number) = spec.value (option_map (λ text. text.now) name) number
given_of (Values name number error) = spec.values (option_map (λ text. text.now) name) number error
