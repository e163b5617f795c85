use Rattle.config_reader.proofs.Room.{few_clients, profiles_have_room}
use Rattle.config_reader.proofs.laws.faultless_configurations_have_room.Goals as goal

pub returns : goal.returns
returns c = record {
  clients = few_clients;
  profiles = profiles_have_room;
}
