-- What the elements of the code stand for: those of a tree.
use Rattle.std.specs.Prelude.{List, map}
use Rattle.cg_part.specs.Elements as part
use Rattle.cg_model.specs.Group.{kind_in}
use Rattle.cg_message.specs.Placed as placed
use Rattle.cg_message.specs.Placed.{Placed, Places, bare, bare_all, listed}
use Rattle.cg_message.specs.declared.element.Element.{Element}
use Rattle.cg_message.specs.declared.element.Element.TheFolds.{fold-Element, fold-Elements}
use Rattle.cg_message.specs.declared.element.Element.TheOpen.{Element-F, Elements-F, Event, Group, Span}
use Rattle.cg_message.specs.declared.element.Elements.{Elements, out-Elements}

-- the element of a tree, from the elements within it
abbrev pub element_step : Element-F Placed Places → Placed
element_step (Event number place) = placed.Event number place
element_step (Group kind place es) = placed.Group (kind_in kind) place es
element_step (Span es closing) = placed.Span es closing

-- those that elements stand for, one after another
abbrev pub elements_step : Elements-F Placed Places → Places
elements_step es = listed es.items

-- what an element stands for
abbrev pub placed_in : Element → Placed
placed_in = fold-Element Placed Places element_step elements_step

-- what elements stand for
abbrev pub places_in : Elements → Places
places_in = fold-Elements Placed Places element_step elements_step

-- elements as a list
abbrev pub items_in : Elements → List Element
items_in es = (out-Elements es).items

-- what the elements of a list stand for
abbrev pub all_placed : List Element → Places
all_placed items = listed (map placed_in items)

-- the same without places
abbrev pub element_in : Element → part.Element
element_in e = bare (placed_in e)

abbrev pub all_in : List Element → part.Elements
all_in items = bare_all (all_placed items)
