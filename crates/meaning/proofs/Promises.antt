-- The promises: each hands its statement to the law that has it.
use Rattle.meaning.specs.Promises.{Grounds, GroundsBack, Demand3, Values, Fitting, AcceptedSound, AcceptedLeads, ReadBack, LettersBack}
use Rattle.meaning.proofs.TextGrounds as text
use Rattle.meaning.proofs.Demand3 as demand
use Rattle.meaning.proofs.Fits as accepted
use Rattle.meaning.proofs.NameLetters as letters

pub grounds : Grounds
grounds = text.grounds

pub grounds_back : GroundsBack
grounds_back = λ t n j. text.grounds_back t

pub demand3 : Demand3
demand3 = demand.demand3

pub values : Values
values = demand.values

pub fits : Fitting
fits = accepted.room

pub accepted_sound : AcceptedSound
accepted_sound = accepted.accepted_sound

pub accepted_leads : AcceptedLeads
accepted_leads = accepted.accepted_leads

pub read_back : ReadBack
read_back = accepted.read_back

pub letters_back : LettersBack
letters_back = letters.name_padded
