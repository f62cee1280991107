use Rattle.cg_session.proofs.PortLemmas.{legal_step, grown_alone}
use Rattle.cg_session.proofs.port.BookPortPort.event.Goals as goal

pub returns-clause-legal : goal.returns-clause-legal
returns-clause-legal c = legal_step _ _ _ _ _ c.apply.ensures.step c.requires.legal c.requires.may

pub returns-clause-grows : goal.returns-clause-grows
returns-clause-grows c = grown_alone _ _ _ _ _ c.apply.ensures.step
