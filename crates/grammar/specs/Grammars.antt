-- A grammar as the definitions speak of it.
use Rattle.format.specs.Parts.{Contents}
use Rattle.grammar.specs.declared.grammar.Grammar.{Grammar}
use Rattle.grammar.specs.Holds.{holding}

abbrev pub contents_in : Grammar → Contents
contents_in g = holding g.header.labels g.header.words g.table
