-- Want of memory.
use Rattle.cg_grammar.specs.declared.fault.CqlCause.TheVariants.{NoMemory}
use Rattle.cg_grammar.specs.declared.fault.Refusal.{Refusal}
use Rattle.cg_grammar.specs.declared.fault.Refusal.TheVariants.{Here}

-- the refusal for want of memory
abbrev pub no_memory : Refusal
no_memory = Here NoMemory
