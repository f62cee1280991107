-- What the elements of the code stand for: those of a tree.
use Rattle.std.specs.Prelude.{List, [], ◌∷◌, map}
use Rattle.cg_part.specs.Elements as part
use Rattle.cg_part.specs.Elements.{none, more}
use Rattle.cg_model.specs.Group.{kind_in}
use Rattle.cg_up.specs.declared.element.Element.{Element}
use Rattle.cg_up.specs.declared.element.Element.TheFolds.{fold-Element, fold-Elements}
use Rattle.cg_up.specs.declared.element.Element.TheOpen.{Element-F, Elements-F, Event, Group, Span}
use Rattle.cg_up.specs.declared.element.Elements.{Elements, out-Elements}

-- elements one after another
abbrev pub listed : List part.Element → part.Elements
listed [] = none
listed (e ∷ es) = more e (listed es)

-- elements with one more behind them
abbrev pub elements_with : part.Elements → part.Element → part.Elements
elements_with none e = more e none
elements_with (more u us) e = more u (elements_with us e)

-- elements with others behind them
abbrev pub joined : part.Elements → part.Elements → part.Elements
joined none es = es
joined (more u us) es = more u (joined us es)

-- the element of a tree, from the elements within it
abbrev pub element_step : Element-F part.Element part.Elements → part.Element
element_step (Event number) = part.Event number
element_step (Group kind es) = part.Group (kind_in kind) es
element_step (Span es closing) = part.Span es closing

-- those that elements stand for, one after another
abbrev pub elements_step : Elements-F part.Element part.Elements → part.Elements
elements_step es = listed es.items

-- what an element stands for
abbrev pub element_in : Element → part.Element
element_in = fold-Element part.Element part.Elements element_step elements_step

-- what elements stand for
abbrev pub elements_in : Elements → part.Elements
elements_in = fold-Elements part.Element part.Elements element_step elements_step

-- elements as a list
abbrev pub items_in : Elements → List Element
items_in es = (out-Elements es).items

-- what the elements of a list stand for
abbrev pub all_in : List Element → part.Elements
all_in items = listed (map element_in items)
