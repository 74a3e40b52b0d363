mod Reported
