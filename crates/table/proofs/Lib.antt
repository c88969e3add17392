mod TakenOff
